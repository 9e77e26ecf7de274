-- What is written into a table. Assumes nothing.
use Rattle.std.proofs.Common.{◌≡◌, ℕ, ◌<◌, ◌≤◌, ltb, List, [], map, length, ap, ⊎_elim, arith}
use Rattle.std.proofs.lemmas.Bool.{cases_lt, lt-ltb, le-ltb, cond-true, cond-false}
use Rattle.std.specs.List.{range_with_len}
use Rattle.matrices.specs.Relations.{neighbours}
use Rattle.matrices.proofs.Tables.{map_counting_same}
use Rattle.tabled_codes.specs.Rows.{Light, rows_of}

module _ (m : ℕ) (rows : ℕ → List ℕ) (u : ℕ) where
  pub these_neighbours : u < m → neighbours m rows u ≡ rows u
  these_neighbours h = cond-true (ltb u m) (rows u) [] (lt-ltb u m h)

  -- also where there is no such node
  pub few_neighbours : Light m rows → length (neighbours m rows u) ≤ 12
  few_neighbours light =
      ⊎_elim
      (λ h. omega (arith, ap length (these_neighbours h), light u h))
      (λ h. omega (arith, ap length (cond-false (ltb u m) (rows u) [] (le-ltb u m h))))
      (cases_lt u m)

-- the rows of the nodes
pub rows_written : (m : ℕ) (rows : ℕ → List ℕ) → map (neighbours m rows) (range_with_len 0 m) ≡ rows_of m rows
rows_written m rows = map_counting_same (neighbours m rows) rows 0 m (λ u h. these_neighbours m rows u (omega arith))
