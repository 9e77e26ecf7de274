-- Relations on pairs, from a relation on one part. Assumes nothing.
use Rattle.std.specs.Prelude.{◌≡◌, ℕ, ◌+◌, ◌*◌, ◌/◌, ◌%◌, ◌<◌, ◌≤◌, true, false, List, length, ◌≢◌}
use Rattle.std.proofs.Common.{sym, ap, ◌∙◌, subst, ⊎_elim, arith}
use Rattle.std.proofs.lemmas.List.{length-map}
use Rattle.std.proofs.lemmas.Nat.{div-mul-add, mod-mul-add, div-add-mod', div_below, mod_below, mul-add-lt}
use Rattle.std.proofs.lemmas.Bool.{cases_eq}
use Rattle.patterns.specs.Sets.{has, Apart}
use Rattle.patterns.proofs.Lists.{has_map_one, has_map_none, has_map_from, apart_map}
use Rattle.matrices.specs.Relations.{Paired}
use Rattle.products.specs.Pairs.{by_first, by_second}

-- ---- the first part moves

first_one : (w r : ℕ) → r < w → (x y : ℕ) → x * w + r ≡ y * w + r → x ≡ y
first_one w r h x y e = sym (div-mul-add x w r h) ∙ ap (λ n. n / w) e ∙ div-mul-add y w r h

module _ (w : ℕ) (some : 0 < w) (lists : ℕ → List ℕ) where
  pub first_has : (x y : ℕ) → x % w ≡ y % w → has (by_first w lists x) y ≡ has (lists (x / w)) (y / w)
  first_has x y e =
      ap (has (by_first w lists x)) (sym (div-add-mod' y w) ∙ ap (λ n. y / w * w + n) (sym e))
      ∙ has_map_one (λ v. v * w + x % w) (first_one w (x % w) (mod_below x w some)) (lists (x / w)) (y / w)

  pub first_none : (x y : ℕ) → (x % w ≢ y % w) → has (by_first w lists x) y ≡ false
  first_none x y ne =
      has_map_none (λ v. v * w + x % w) (lists (x / w)) y (λ v _ e. ne (sym (mod-mul-add v w (x % w) (mod_below x w some)) ∙ ap (λ n. n % w) e))

  first_apart : (x : ℕ) → Apart (lists (x / w)) → Apart (by_first w lists x)
  first_apart x h = apart_map (λ v. v * w + x % w) (lists (x / w)) (λ u v _ _. first_one w (x % w) (mod_below x w some) u v) h

  pub first_within : (n x y : ℕ) → ((v : ℕ) → has (lists (x / w)) v ≡ true → v < n) → has (by_first w lists x) y ≡ true → y < n * w
  first_within n x y within h =
      let from = has_map_from (λ v. v * w + x % w) (lists (x / w)) y h in
      let b = mul-add-lt from.0 w (x % w) n (within from.0 from.1) (mod_below x w some) in
      omega (arith, b, from.2)

  pub first_few : (most x : ℕ) → length (lists (x / w)) ≤ most → length (by_first w lists x) ≤ most
  first_few most x h = subst (λ k. k ≤ most) (sym (length-map (lists (x / w)) (λ v. v * w + x % w))) h

pub first_paired : {most m n : ℕ} {of_row of_column : ℕ → List ℕ} (w : ℕ) → 0 < w → Paired most m n of_row of_column → Paired most (m * w) (n * w) (by_first w of_row) (by_first w of_column)
first_paired {most} {m} {n} {of_row} {of_column} w some p = record {
  same = λ x y hx hy. ⊎_elim
      (λ e. first_has w some of_row x y e ∙ p.same (x / w) (y / w) (div_below x w m some hx) (div_below y w n some hy) ∙ sym (first_has w some of_column y x (sym e)))
      (λ ne. first_none w some of_row x y ne ∙ sym (first_none w some of_column y x (λ e. ne (sym e))))
      (cases_eq (x % w) (y % w));
  row_apart = λ x hx. first_apart w some of_row x (p.row_apart (x / w) (div_below x w m some hx));
  column_apart = λ y hy. first_apart w some of_column y (p.column_apart (y / w) (div_below y w n some hy));
  row_within = λ x y hx. first_within w some of_row n x y (λ v. p.row_within (x / w) v (div_below x w m some hx));
  column_within = λ y x hy. first_within w some of_column m y x (λ u. p.column_within (y / w) u (div_below y w n some hy));
  row_few = λ x hx. first_few w some of_row most x (p.row_few (x / w) (div_below x w m some hx));
  column_few = λ y hy. first_few w some of_column most y (p.column_few (y / w) (div_below y w n some hy));
}

-- ---- the second part moves

module _ (m n : ℕ) (lists : ℕ → List ℕ) where
  pub second_has : 0 < n → (x y : ℕ) → x / m ≡ y / n → has (by_second m n lists x) y ≡ has (lists (x % m)) (y % n)
  second_has some x y e =
      ap (has (by_second m n lists x)) (sym (div-add-mod' y n) ∙ ap (λ k. k * n + y % n) (sym e))
      ∙ has_map_one (λ v. x / m * n + v) (λ v w k. omega arith) (lists (x % m)) (y % n)

  pub second_none : (x y : ℕ) → ((v : ℕ) → has (lists (x % m)) v ≡ true → v < n) → (x / m ≢ y / n) → has (by_second m n lists x) y ≡ false
  second_none x y within ne =
      has_map_none (λ v. x / m * n + v) (lists (x % m)) y (λ v h e. ne (sym (div-mul-add (x / m) n v (within v h)) ∙ ap (λ k. k / n) e))

  second_apart : (x : ℕ) → Apart (lists (x % m)) → Apart (by_second m n lists x)
  second_apart x h = apart_map (λ v. x / m * n + v) (lists (x % m)) (λ v w _ _ k. omega arith) h

  pub second_within : (t x y : ℕ) → x / m < t → ((v : ℕ) → has (lists (x % m)) v ≡ true → v < n) → has (by_second m n lists x) y ≡ true → y < t * n
  second_within t x y hx within h =
      let from = has_map_from (λ v. x / m * n + v) (lists (x % m)) y h in
      let b = mul-add-lt (x / m) n from.0 t hx (within from.0 from.1) in
      omega (arith, b, from.2)

  pub second_few : (most x : ℕ) → length (lists (x % m)) ≤ most → length (by_second m n lists x) ≤ most
  second_few most x h = subst (λ k. k ≤ most) (sym (length-map (lists (x % m)) (λ v. x / m * n + v))) h

pub second_paired : {most m n : ℕ} {of_row of_column : ℕ → List ℕ} (t : ℕ) → 0 < m → 0 < n → Paired most m n of_row of_column → Paired most (t * m) (t * n) (by_second m n of_row) (by_second n m of_column)
second_paired {most} {m} {n} {of_row} {of_column} t pm pn p = record {
  same = λ x y hx hy. ⊎_elim
      (λ e. second_has m n of_row pn x y e ∙ p.same (x % m) (y % n) (mod_below x m pm) (mod_below y n pn) ∙ sym (second_has n m of_column pm y x (sym e)))
      (λ ne. second_none m n of_row x y (λ v. p.row_within (x % m) v (mod_below x m pm)) ne ∙ sym (second_none n m of_column y x (λ u. p.column_within (y % n) u (mod_below y n pn)) (λ e. ne (sym e))))
      (cases_eq (x / m) (y / n));
  row_apart = λ x hx. second_apart m n of_row x (p.row_apart (x % m) (mod_below x m pm));
  column_apart = λ y hy. second_apart n m of_column y (p.column_apart (y % n) (mod_below y n pn));
  row_within = λ x y hx. second_within m n of_row t x y (div_below x m t pm hx) (λ v. p.row_within (x % m) v (mod_below x m pm));
  column_within = λ y x hy. second_within n m of_column t y x (div_below y n t pn hy) (λ u. p.column_within (y % n) u (mod_below y n pn));
  row_few = λ x hx. second_few m n of_row most x (p.row_few (x % m) (mod_below x m pm));
  column_few = λ y hy. second_few n m of_column most y (p.column_few (y % n) (mod_below y n pn));
}
