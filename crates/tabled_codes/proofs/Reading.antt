-- What is read from a table. Assumes nothing.
use Rattle.std.proofs.Common.{◌≡◌, ℕ, ◌<◌, ◌≤◌, ltb, List, [], map, length, get_or, Some, None, sym, ap, ◌∙◌, arith}
use Rattle.std.specs.List.{slice_get}
use Rattle.std.proofs.lemmas.List.{length-map, get_or-map}
use Rattle.std.proofs.lemmas.Bool.{lt-ltb, le-ltb, cond-true, cond-false}
use Rattle.arrayvec.specs.ArrayVec.{ArrayVec}
use Rattle.matrices.specs.Relations.{size_at, neighbour, listed}
use Rattle.tabled_codes.specs.Rows.{over}

module _ (rows : List (List ℕ)) (rest : ℕ → List ℕ) (u : ℕ) where
  pub over_here : u < length rows → over rows rest u ≡ listed rows u
  unfolding over
  over_here h = cond-true (ltb u (length rows)) (listed rows u) (rest u) (lt-ltb u (length rows) h)

  pub over_past : length rows ≤ u → over rows rest u ≡ rest u
  unfolding over
  over_past h = cond-false (ltb u (length rows)) (listed rows u) (rest u) (le-ltb u (length rows) h)

module _ (nodes : List (ArrayVec ℕ)) (rest : ℕ → List ℕ) (u : ℕ) where
  pub size_past : length nodes ≤ u → None ≡ size_at (length (map (λ row. row.items) nodes)) (over (map (λ row. row.items) nodes) rest) u
  size_past h =
      let rows = map (λ row. row.items) nodes in
      sym (cond-false (ltb u (length rows)) (Some (length (over rows rest u))) None (le-ltb u (length rows) (omega (arith, length-map nodes (λ row. row.items)))))

  pub neighbour_past : (k : ℕ) → length nodes ≤ u → None ≡ neighbour (length (map (λ row. row.items) nodes)) (over (map (λ row. row.items) nodes) rest) u k
  neighbour_past k h =
      let rows = map (λ row. row.items) nodes in
      sym (cond-false (ltb u (length rows)) (slice_get (over rows rest u) k) None (le-ltb u (length rows) (omega (arith, length-map nodes (λ row. row.items)))))

  module _ (x : ArrayVec ℕ) (here : u < length nodes) (is : x ≡ get_or nodes u x) where
    inside : u < length (map (λ row. row.items) nodes)
    inside = omega (arith, length-map nodes (λ row. row.items))

    row_is : x.items ≡ over (map (λ row. row.items) nodes) rest u
    row_is =
        ap (λ row. row.items) is
        ∙ sym (get_or-map (λ row. row.items) nodes u x [] here)
        ∙ sym (over_here (map (λ row. row.items) nodes) rest u inside)

    pub size_here : Some (length x.items) ≡ size_at (length (map (λ row. row.items) nodes)) (over (map (λ row. row.items) nodes) rest) u
    size_here =
        let rows = map (λ row. row.items) nodes in
        ap (λ l. Some (length l)) row_is ∙ sym (cond-true (ltb u (length rows)) (Some (length (over rows rest u))) None (lt-ltb u (length rows) inside))

    pub neighbour_here : (k : ℕ) → slice_get x.items k ≡ neighbour (length (map (λ row. row.items) nodes)) (over (map (λ row. row.items) nodes) rest) u k
    neighbour_here k =
        let rows = map (λ row. row.items) nodes in
        ap (λ l. slice_get l k) row_is ∙ sym (cond-true (ltb u (length rows)) (slice_get (over rows rest u) k) None (lt-ltb u (length rows) inside))
