-- Two relations of the same rows, whose columns are two blocks. Assumes nothing.
use Rattle.std.specs.Prelude.{◌≡◌, ℕ, ◌+◌, ◌-◌, ◌<◌, ◌≤◌, true, false, ◌||◌, List, map, length, nat_lt}
use Rattle.std.proofs.Common.{sym, ap, ◌∙◌, subst, ⊎_elim, arith}
use Rattle.std.proofs.Math.Bool.{or-false}
use Rattle.std.proofs.lemmas.List.{length-append, length-map}
use Rattle.std.proofs.lemmas.Bool.{cases_Bool, cases_lt, lt-ltb, le-ltb, cond-true, cond-false, or_cases}
use Rattle.patterns.specs.Sets.{has, Apart}
use Rattle.patterns.proofs.Lists.{has_append, has_map_one, has_map_none, has_map_from, apart_map, apart_append}
use Rattle.matrices.specs.Relations.{Paired}
use Rattle.products.specs.Pairs.{two_blocks, in_block}

module _ {a b m n k : ℕ} {one two back_one back-two : ℕ → List ℕ} (p : Paired a m n one back_one) (r : Paired b m k two back-two) where
  pub in_left : (u v : ℕ) → v < n → has (two_blocks n one two u) v ≡ has (one u) v
  in_left u v h =
      has_append (one u) (map (λ x. n + x) (two u)) v
      ∙ ap (λ x. has (one u) v || x) (has_map_none (λ x. n + x) (two u) v (λ x _ e. omega arith))
      ∙ or-false (has (one u) v)

  pub in_right : (u v : ℕ) → u < m → n ≤ v → has (two_blocks n one two u) v ≡ has (two u) (v - n)
  in_right u v hu h =
      let none : has (one u) v ≡ false = ⊎_elim (λ e. absurd (over (p.row_within u v hu e))) (λ e. e) (cases_Bool (has (one u) v)) in
      let whole : v ≡ n + (v - n) = omega arith in
      has_append (one u) (map (λ x. n + x) (two u)) v
      ∙ ap (λ x. x || has (map (λ x. n + x) (two u)) v) none
      ∙ ap (has (map (λ x. n + x) (two u))) whole
      ∙ has_map_one (λ x. n + x) (λ x y e. omega arith) (two u) (v - n)
    where
      over : v < n → ⊥
      over l = omega arith

  left_column : (v : ℕ) → v < n → in_block n back_one back-two v ≡ back_one v
  left_column v h = cond-true (nat_lt v n) (back_one v) (back-two (v - n)) (lt-ltb v n h)

  right_column : (v : ℕ) → n ≤ v → in_block n back_one back-two v ≡ back-two (v - n)
  right_column v h = cond-false (nat_lt v n) (back_one v) (back-two (v - n)) (le-ltb v n h)

  of_column : (P : List ℕ → Type 0) (v : ℕ) → v < n + k → (v < n → P (back_one v)) → (v - n < k → P (back-two (v - n))) → P (in_block n back_one back-two v)
  of_column P v h f s =
      ⊎_elim (λ l. subst P (sym (left_column v l)) (f l)) (λ l. subst P (sym (right_column v l)) (s (omega arith))) (cases_lt v n)

  pub blocks_paired : Paired (a + b) m (n + k) (two_blocks n one two) (in_block n back_one back-two)
  blocks_paired = record {
    same = λ u v hu hv. ⊎_elim
        (λ l. in_left u v l ∙ p.same u v hu l ∙ ap (λ c. has c u) (sym (left_column v l)))
        (λ l. in_right u v hu l ∙ r.same u (v - n) hu (omega arith) ∙ ap (λ c. has c u) (sym (right_column v l)))
        (cases_lt v n);
    row_apart = λ u hu. apart_append (one u) (map (λ x. n + x) (two u)) (p.row_apart u hu)
        (apart_map (λ x. n + x) (two u) (λ x y _ _ e. omega arith) (r.row_apart u hu))
        (λ z h. let l : z < n = p.row_within u z hu h in has_map_none (λ x. n + x) (two u) z (λ x _ e. omega arith));
    column_apart = λ v hv. of_column Apart v hv (λ l. p.column_apart v l) (λ l. r.column_apart (v - n) l);
    row_within = λ u v hu h. ⊎_elim
        (λ e. let l = p.row_within u v hu e in omega (arith, l))
        (λ e. let from = has_map_from (λ x. n + x) (two u) v e in let l = r.row_within u from.0 hu from.1 in omega (arith, l, from.2))
        (or_cases (has (one u) v) (has (map (λ x. n + x) (two u)) v) (sym (has_append (one u) (map (λ x. n + x) (two u)) v) ∙ h));
    column_within = λ v u hv. of_column (λ c. has c u ≡ true → u < m) v hv (λ l. p.column_within v u l) (λ l. r.column_within (v - n) u l);
    row_few = λ u hu. omega (arith, length-append (one u) (map (λ x. n + x) (two u)), length-map (two u) (λ x. n + x), p.row_few u hu, r.row_few u hu);
    column_few = λ v hv. of_column (λ c. length c ≤ a + b) v hv (λ l. omega (arith, p.column_few v l)) (λ l. omega (arith, r.column_few (v - n) l));
  }
