-- What a lookup in lists of neighbours answers. Assumes nothing.
use Rattle.std.proofs.Common.{◌≡◌, ℕ, zero, suc, ◌<◌, ◌≤◌, true, eqb, ltb, List, [], ◌∷◌, map, length, get_or, Some, None, vec_items, vec_len, Option, Vec, sym, ap, ◌∙◌, ⊎_elim, arith, Bor}
use Rattle.std.specs.List.{slice_get}
use Rattle.std.specs.Option.{option_map}
use Rattle.std.specs.Slice.{IsGetResult}
use Rattle.std.specs.declared.alloc.Global.{Global}
use Rattle.std.proofs.lemmas.List.{length-map, get_or-map}
use Rattle.std.proofs.lemmas.Option.{slice_get-get_or, slice_get_past}
use Rattle.std.proofs.lemmas.Bool.{cases_lt, lt-ltb, le-ltb, cond-true, cond-false, eq-eqb, or_left, or_right}
use Rattle.patterns.specs.Sets.{has}
use Rattle.matrices.specs.Relations.{size_at, neighbour, listed}

-- what `get` answers
pub got : {X : Type 0} (xs : List X) (i : ℕ) (r : Option (Bor X)) → IsGetResult xs i i r → option_map (λ x. x.now) r ≡ slice_get xs i
got xs i None it = sym (slice_get_past xs i it.3)
got xs i (Some x) it = sym (slice_get-get_or xs i x.now it.3.0 ∙ ap Some (sym (it.3.1 x.now)))

-- what stands in a list is one of its numbers
pub nth_has : (xs : List ℕ) (k x : ℕ) → Some x ≡ slice_get xs k → has xs x ≡ true
nth_has [] k x e = let z : ◌≡◌ {A = ℕ} 0 1 = cc in absurd (omega arith)
nth_has (y ∷ ys) zero x e = let same : x ≡ y = cc in or_left (eqb y x) (has ys x) (eq-eqb y x (sym same))
nth_has (y ∷ ys) (suc k) x e = or_right (eqb y x) (has ys x) (nth_has ys k x e)

-- ---- a scan over the neighbours of a node

-- neighbour v was told at place k
pub record Found (row : List ℕ) (k v : ℕ) : Type 0 where
  pub here : k < length row
  pub is : get_or row k 0 ≡ v
  pub among : has row v ≡ true

nth_found : (xs : List ℕ) (k v : ℕ) → Some v ≡ slice_get xs k → (k < length xs) × (get_or xs k 0 ≡ v)
nth_found [] k v e = let z : ◌≡◌ {A = ℕ} 0 1 = cc in absurd (omega arith)
nth_found (x ∷ xs) zero v e = let same : x ≡ v = cc in (omega arith, same)
nth_found (x ∷ xs) (suc k) v e = let rest = nth_found xs k v e in (omega (arith, rest.0), rest.1)

nth_ended : (xs : List ℕ) (k : ℕ) → None ≡ slice_get xs k → length xs ≤ k
nth_ended [] k e = omega arith
nth_ended (x ∷ xs) zero e = let z : ◌≡◌ {A = ℕ} 0 1 = cc in absurd (omega arith)
nth_ended (x ∷ xs) (suc k) e = omega (arith, nth_ended xs k e)

-- a node whose size is told is one of the nodes
pub size_within : (m : ℕ) (of_row : ℕ → List ℕ) (u s : ℕ) → Some s ≡ size_at m of_row u → u < m
size_within m of_row u s e =
    ⊎_elim
    (λ l. l)
    (λ l. let none = cond-false (ltb u m) (Some (length (of_row u))) None (le-ltb u m l) in let z : ◌≡◌ {A = ℕ} 0 1 = cc in absurd (omega arith))
    (cases_lt u m)

module _ (m : ℕ) (of_row : ℕ → List ℕ) (u k : ℕ) (within : u < m) where
  at_row : neighbour m of_row u k ≡ slice_get (of_row u) k
  at_row = cond-true (ltb u m) (slice_get (of_row u) k) None (lt-ltb u m within)

  pub found_at : (v : ℕ) → Some v ≡ neighbour m of_row u k → Found (of_row u) k v
  found_at v e =
      let at = nth_found (of_row u) k v (e ∙ at_row) in
      record { here = at.0; is = at.1; among = nth_has (of_row u) k v (e ∙ at_row) }

  pub ended_at : None ≡ neighbour m of_row u k → length (of_row u) ≤ k
  ended_at e = nth_ended (of_row u) k (e ∙ at_row)

-- ---- lists in vectors

module _ (nodes : List (Vec ℕ Global)) (u : ℕ) where
  pub size_past : length nodes ≤ u → None ≡ size_at (length (map vec_items nodes)) (listed (map vec_items nodes)) u
  size_past h =
      sym (cond-false (ltb u (length (map vec_items nodes))) (Some (length (listed (map vec_items nodes) u))) None
      (le-ltb u (length (map vec_items nodes)) (omega (arith, length-map nodes (vec_items {X = ℕ} {Z = Global})))))

  pub neighbour_past : (k : ℕ) → length nodes ≤ u → None ≡ neighbour (length (map vec_items nodes)) (listed (map vec_items nodes)) u k
  neighbour_past k h =
      sym (cond-false (ltb u (length (map vec_items nodes))) (slice_get (listed (map vec_items nodes) u) k) None
      (le-ltb u (length (map vec_items nodes)) (omega (arith, length-map nodes (vec_items {X = ℕ} {Z = Global})))))

  module _ (x : Vec ℕ Global) (here : u < length nodes) (is : x ≡ get_or nodes u x) where
    there : ltb u (length (map vec_items nodes)) ≡ true
    there = lt-ltb u (length (map vec_items nodes)) (omega (arith, length-map nodes (vec_items {X = ℕ} {Z = Global})))

    list_is : vec_items x ≡ listed (map vec_items nodes) u
    list_is = ap vec_items is ∙ sym (get_or-map vec_items nodes u x [] here)

    pub size_here : Some (vec_len x) ≡ size_at (length (map vec_items nodes)) (listed (map vec_items nodes)) u
    size_here =
        ap Some (x.ok.0 ∙ ap length list_is)
        ∙ sym (cond-true (ltb u (length (map vec_items nodes))) (Some (length (listed (map vec_items nodes) u))) None there)

    pub neighbour_here : (k : ℕ) → slice_get (vec_items x) k ≡ neighbour (length (map vec_items nodes)) (listed (map vec_items nodes)) u k
    neighbour_here k =
        ap (λ l. slice_get l k) list_is ∙ sym (cond-true (ltb u (length (map vec_items nodes))) (slice_get (listed (map vec_items nodes) u) k) None there)
