-- Rows of numbers in tables: for each node the list of its neighbours, at most as many as a node of a code may have. Assumes nothing.
use Rattle.std.specs.Prelude.{ℕ, ◌<◌, ◌≤◌, cond, List, map, length, nat_lt, Vec, vec_items}
use Rattle.std.specs.List.{range_with_len}
use Rattle.std.specs.declared.alloc.Global.{Global}
use Rattle.arrayvec.specs.ArrayVec.{ArrayVec}
use Rattle.matrices.specs.Relations.{listed}
use Rattle.codes.specs.Layouts.{most_weight}

-- the neighbours of each node, as a table holds them
abbrev pub lists : Vec (ArrayVec ℕ) Global → List (List ℕ)
lists nodes = map (λ row. row.items) (vec_items nodes)

-- the rows of a table, and past its last node those of another relation
unfoldable pub over : List (List ℕ) → (ℕ → List ℕ) → ℕ → List ℕ
over rows rest u = cond (nat_lt u (length rows)) (listed rows u) (rest u)

-- no node of m has more neighbours than places
abbrev pub Light : ℕ → (ℕ → List ℕ) → Type 0
Light m rows = (u : ℕ) → u < m → length (rows u) ≤ most_weight

-- what is written of a relation: the neighbours of each of the first m nodes
abbrev pub rows_of : ℕ → (ℕ → List ℕ) → List (List ℕ)
rows_of m rows = map rows (range_with_len 0 m)
