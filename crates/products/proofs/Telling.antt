-- What families of pairs and of blocks tell of a node, by what their parts tell. Assumes nothing.
use Rattle.std.proofs.Common.{◌≡◌, ℕ, zero, suc, ◌+◌, ◌-◌, ◌*◌, ◌/◌, ◌%◌, ◌<◌, ◌≤◌, ltb, List, [], ◌∷◌, ◌++◌, map, length, Some, None, Option, sym, ap, ap₂, ◌∙◌, subst, ⊎_elim, arith}
use Rattle.std.specs.List.{slice_get}
use Rattle.std.specs.Option.{option_map}
use Rattle.std.proofs.lemmas.Nat.{div_below, mod_below, le-div, mul-add-lt, div-add-mod'}
use Rattle.std.proofs.lemmas.Option.{slice_get-map}
use Rattle.std.proofs.lemmas.Bool.{cases_lt, lt-ltb, le-ltb, cond-true, cond-false}
use Rattle.matrices.specs.Relations.{neighbour, size_at}
use Rattle.matrices.proofs.Lookups.{size_within, found_at}
use Rattle.products.specs.Pairs.{by_first, by_second, two_blocks}
use Rattle.products.specs.Steps.{Light, most_pairs}

-- ---- a neighbour is one of the nodes

module _ (m : ℕ) (rows : ℕ → List ℕ) (u k : ℕ) where
  here : u < m → neighbour m rows u k ≡ slice_get (rows u) k
  here h = cond-true (ltb u m) (slice_get (rows u) k) None (lt-ltb u m h)

  past : m ≤ u → neighbour m rows u k ≡ None
  past h = cond-false (ltb u m) (slice_get (rows u) k) None (le-ltb u m h)

  pub small_told : Light m rows → (v : ℕ) → Some v ≡ neighbour m rows u k → v < most_pairs
  small_told l v e =
      ⊎_elim
      (λ h. l.within u v h (found_at m rows u k h v e).among)
      (λ h. let none = past h in let z : ◌≡◌ {A = ℕ} 0 1 = cc in absurd (omega arith))
      (cases_lt u m)

-- ---- where one part of a pair moves

module _ (m w x k : ℕ) (some : 0 < w) (rows : ℕ → List ℕ) where
  first_told : option_map (λ v. v * w + x % w) (neighbour m rows (x / w) k) ≡ neighbour (m * w) (by_first w rows) x k
  first_told =
      ⊎_elim
      (λ h. ap (option_map (λ v. v * w + x % w)) (here m rows (x / w) k (div_below x w m some h))
      ∙ sym (slice_get-map (λ v. v * w + x % w) (rows (x / w)) k)
      ∙ sym (here (m * w) (by_first w rows) x k h))
      (λ h. ap (option_map (λ v. v * w + x % w)) (past m rows (x / w) k (le-div m x w some h)) ∙ sym (past (m * w) (by_first w rows) x k h))
      (cases_lt x (m * w))

  -- by a width that was told
  pub first_moved : (width : ℕ) (r : Option ℕ) → width ≡ w → r ≡ neighbour m rows (x / width) k → option_map (λ v. v * width + x % width) r ≡ neighbour (m * w) (by_first w rows) x k
  first_moved width r e is =
      ap (option_map (λ v. v * width + x % width)) is
      ∙ ap (λ j. option_map (λ v. v * j + x % j) (neighbour m rows (x / j) k)) e
      ∙ first_told

  pub first_small : Light (m * w) (by_first w rows) → (width v : ℕ) → width ≡ w → Some v ≡ neighbour m rows (x / width) k → v * width + x % width < most_pairs
  first_small light width v e is = small_told (m * w) (by_first w rows) x k light (v * width + x % width) (first_moved width (Some v) e is)

module _ (m n w x k : ℕ) (some : 0 < w) (rows : ℕ → List ℕ) where
  second_told : x / w < m → option_map (λ v. x / w * n + v) (neighbour w rows (x % w) k) ≡ neighbour (m * w) (by_second w n rows) x k
  second_told h =
      ap (option_map (λ v. x / w * n + v)) (here w rows (x % w) k (mod_below x w some))
      ∙ sym (slice_get-map (λ v. x / w * n + v) (rows (x % w)) k)
      ∙ sym (here (m * w) (by_second w n rows) x k (omega (arith, mul-add-lt (x / w) w (x % w) m h (mod_below x w some), div-add-mod' x w)))

  -- by widths that were told
  pub second_moved : (width to v : ℕ) → width ≡ w → to ≡ n → x / width < m → Some v ≡ neighbour w rows (x % width) k → Some (x / width * to + v) ≡ neighbour (m * w) (by_second w n rows) x k
  second_moved width to v e t h is =
      ap (option_map (λ v. x / width * to + v)) is
      ∙ ap₂ (λ j i. option_map (λ v. x / j * i + v) (neighbour w rows (x % j) k)) e t
      ∙ second_told (subst (λ j. x / j < m) e h)

  pub second_small : Light (m * w) (by_second w n rows) → (width to v : ℕ) → width ≡ w → to ≡ n → x / width < m → Some v ≡ neighbour w rows (x % width) k → x / width * to + v < most_pairs
  second_small light width to v e t h is = small_told (m * w) (by_second w n rows) x k light (x / width * to + v) (second_moved width to v e t h is)

-- ---- rows over two blocks

nth_back : (xs ys : List ℕ) (k : ℕ) → length xs ≤ k → slice_get (xs ++ ys) k ≡ slice_get ys (k - length xs)
nth_back [] ys k h = let e : k ≡ k - 0 = omega arith in ap (slice_get ys) e
nth_back (x ∷ xs) ys zero h = absurd (omega arith)
nth_back (x ∷ xs) ys (suc k) h = let e : k - length xs ≡ suc k - suc (length xs) = omega arith in nth_back xs ys k (omega arith) ∙ ap (slice_get ys) e

-- the second block, after as many as the first has
pub right_told : (m n start : ℕ) (one two : ℕ → List ℕ) (u k s x : ℕ) → n ≡ m → Some s ≡ size_at m one u → s ≤ k → Some x ≡ neighbour n two u (k - s) → Some (start + x) ≡ neighbour m (two_blocks start one two) u k
right_told m n start one two u k s x same size h is =
    let within : u < m = size_within m one u s size in
    let told : Some s ≡ Some (length (one u)) = size ∙ cond-true (ltb u m) (Some (length (one u))) None (lt-ltb u m within) in
    let sized : s ≡ length (one u) = cc in
    ap (option_map (λ v. start + v)) (is ∙ here n two u (k - s) (omega (arith, same, within)))
    ∙ sym (slice_get-map (λ v. start + v) (two u) (k - s))
    ∙ ap (λ j. slice_get (map (λ v. start + v) (two u)) (k - j)) sized
    ∙ sym (nth_back (one u) (map (λ v. start + v) (two u)) k (omega (arith, sized)))
    ∙ sym (here m (two_blocks start one two) u k within)

-- ---- the same nodes, under another name

pub size_same : {m n : ℕ} {rows others : ℕ → List ℕ} {r : Option ℕ} (u : ℕ) → r ≡ size_at m rows u → m ≡ n → rows ≡ others → r ≡ size_at n others u
size_same u is e f = is ∙ ap₂ (λ m r. size_at m r u) e f

pub neighbour_same : {m n : ℕ} {rows others : ℕ → List ℕ} {r : Option ℕ} (u k : ℕ) → r ≡ neighbour m rows u k → m ≡ n → rows ≡ others → r ≡ neighbour n others u k
neighbour_same u k is e f = is ∙ ap₂ (λ m r. neighbour m r u k) e f
