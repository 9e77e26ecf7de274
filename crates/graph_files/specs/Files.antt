-- The graph file: a head of nine bytes, and a row for each check. Assumes nothing.
use Rattle.std.specs.Prelude.{◌≡◌, ℕ, ◌+◌, ◌*◌, ◌/◌, ◌%◌, Bool, ◌&&◌, List, [], ◌∷◌, ◌++◌, length, drop, None, Option, ◌==◌, nat_le, slice_index}
use Rattle.std.specs.List.{range_with_len, flat_map}
use Rattle.refusals.specs.declared.Refusal.{Refusal}
use Rattle.refusals.specs.declared.Refusal.TheVariants.{HeadCutShort, WrongMark, WrongVersion, CountOutOfRange, WrongLength, UnusedBitSet, DegreeOutOfRange}
use Rattle.refusals.specs.Questions.{Question, first_no}
use Rattle.patterns.specs.Sets.{has}
use Rattle.patterns.specs.Patterns.{pattern}
use Rattle.matrices.specs.Relations.{tabled}
use Rattle.matrices.specs.Rows.{entry, turned_entry, just_rows, tidy_rows, sparse}
use Rattle.graphs.specs.Tanners.{Tanner, Same, counted, most_neighbours}
use Rattle.graph_files.specs.Listed.{listed_graph}

-- ---- reading

-- the number whose two bytes, the high one first, stand at i
abbrev pub word : List ℕ → ℕ → ℕ
word file i = 256 * slice_index file i + slice_index file (i + 1)

-- whether the file begins with the mark TAN
abbrev pub marked : List ℕ → Bool
marked file = slice_index file 0 == 84 && (slice_index file 1 == 65 && slice_index file 2 == 78)

-- the counts of variables and of checks, and the rows
abbrev pub variables_in : List ℕ → ℕ
variables_in file = word file 5

abbrev pub checks_in : List ℕ → ℕ
checks_in file = word file 7

abbrev pub rows_in : List ℕ → List ℕ
rows_in file = drop 9 file

-- what is asked of the head
abbrev pub head_questions : List ℕ → List Question
head_questions file =
    (nat_le 9 (length file), HeadCutShort)
    ∷ (marked file, WrongMark)
    ∷ ((word file 3 == 1), WrongVersion)
    ∷ (counted (variables_in file) && counted (checks_in file), CountOutOfRange)
    ∷ []

-- what is asked of m rows over n variables: their length, their unused bits, and the degrees of checks and variables
abbrev pub row_questions : ℕ → ℕ → List ℕ → List Question
row_questions m n rows =
    (just_rows m n rows, WrongLength)
    ∷ (tidy_rows m n rows, UnusedBitSet)
    ∷ (sparse most_neighbours m n rows, DegreeOutOfRange)
    ∷ []

-- which question the file answers with no
unfoldable pub graph_refusal : List ℕ → Option Refusal
graph_refusal file = first_no (head_questions file ++ row_questions (checks_in file) (variables_in file) (rows_in file))

-- the graph of m rows over n variables: the neighbours of check p are the members of row p
abbrev pub rows_graph : ℕ → ℕ → List ℕ → Tanner
rows_graph m n rows = listed_graph (tabled m n (entry n rows)) (tabled n m (turned_entry n rows))

-- the graph that the file tells
abbrev pub graph_in : List ℕ → Tanner
graph_in file = rows_graph (checks_in file) (variables_in file) (rows_in file)

-- ---- writing

-- the mark, the version 1 and the two counts
abbrev pub head_of : ℕ → ℕ → List ℕ
head_of n m = 84 ∷ 65 ∷ 78 ∷ 0 ∷ 1 ∷ n / 256 ∷ n % 256 ∷ m / 256 ∷ m % 256 ∷ []

-- the row of check p: the pattern of its variables
abbrev pub row_of : Tanner → ℕ → List ℕ
row_of t p = pattern t.variables (has (t.of_check p))

-- the first so many rows
abbrev pub rows_of : Tanner → ℕ → List ℕ
rows_of t count = flat_map (row_of t) (range_with_len 0 count)

-- the file of a graph
unfoldable pub file_of : Tanner → List ℕ
file_of t = head_of t.variables t.checks ++ rows_of t t.checks

-- ---- both ways

-- a graph that is written is read again as the same graph
abbrev pub WrittenIsRead : Tanner → Type 0
WrittenIsRead t = (graph_refusal (file_of t) ≡ None) × Same t (graph_in (file_of t))
