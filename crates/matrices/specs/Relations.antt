-- A relation between rows and columns, told from both sides as lists of numbers. Assumes nothing.
use Rattle.std.specs.Prelude.{◌≡◌, ℕ, ◌<◌, ◌≤◌, Bool, true, cond, List, [], map, length, Some, None, Option, nat_le, nat_lt, slice_index_or}
use Rattle.std.specs.List.{slice_get, range_with_len}
use Rattle.patterns.specs.Sets.{Set, has, Apart, members, all_below}

-- m rows over n columns: both sides tell the same pairs, in range and without repeats, at most `most` in a row or a column
pub record Paired (most m n : ℕ) (of_row of_column : ℕ → List ℕ) : Type 0 where
  pub same : (u v : ℕ) → u < m → v < n → has (of_row u) v ≡ has (of_column v) u
  pub row_apart : (u : ℕ) → u < m → Apart (of_row u)
  pub column_apart : (v : ℕ) → v < n → Apart (of_column v)
  pub row_within : (u v : ℕ) → u < m → has (of_row u) v ≡ true → v < n
  pub column_within : (v u : ℕ) → v < n → has (of_column v) u ≡ true → u < m
  pub row_few : (u : ℕ) → u < m → length (of_row u) ≤ most
  pub column_few : (v : ℕ) → v < n → length (of_column v) ≤ most

-- how many neighbours node u of m has, and nothing where there is no such node
abbrev pub size_at : ℕ → (ℕ → List ℕ) → ℕ → Option ℕ
size_at m of_row u = cond (nat_lt u m) (Some (length (of_row u))) None

-- the k-th neighbour of node u of m, and nothing where there is no such node or no k-th
abbrev pub neighbour : ℕ → (ℕ → List ℕ) → ℕ → ℕ → Option ℕ
neighbour m of_row u k = cond (nat_lt u m) (slice_get (of_row u) k) None

-- the neighbours of node u of m, and none where there is no such node
abbrev pub neighbours : ℕ → (ℕ → List ℕ) → ℕ → List ℕ
neighbours m of_row u = cond (nat_lt u m) (of_row u) []

-- the list of row u, and none past the last row
abbrev pub listed : List (List ℕ) → ℕ → List ℕ
listed lists u = slice_index_or lists u []

-- the lists of m rows over n columns, in rising order, of the pairs that the test tells
abbrev pub tabled : ℕ → ℕ → (ℕ → Set) → List (List ℕ)
tabled m n joined = map (λ u. members n (joined u)) (range_with_len 0 m)

-- the lists of m rows, by what the lists of the columns tell
abbrev pub transposed : ℕ → List (List ℕ) → List (List ℕ)
transposed m columns = tabled m (length columns) (λ u v. has (listed columns v) u)

-- whether no list has more than `most` numbers
abbrev pub short : ℕ → List (List ℕ) → Bool
short most lists = all_below (length lists) (λ u. nat_le (length (listed lists u)) most)
