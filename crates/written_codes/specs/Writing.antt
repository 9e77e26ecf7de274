-- A code that is written out: a matrix of checks and one of generators, each row a pattern over the qubits. Assumes nothing.
use Rattle.std.specs.Prelude.{ℕ, Bool, not, ◌&&◌, List, [], ◌∷◌, Option}
use Rattle.refusals.specs.declared.Refusal.{Refusal}
use Rattle.refusals.specs.declared.Refusal.TheVariants.{CountOutOfRange, WrongLength, UnusedBitSet, DegreeOutOfRange, OddOverlap}
use Rattle.refusals.specs.Questions.{Question, first_no}
use Rattle.patterns.specs.Sets.{parity, members, all_below}
use Rattle.matrices.specs.Relations.{tabled}
use Rattle.matrices.specs.Rows.{entry, turned_entry, just_rows, tidy_rows, sparse}
use Rattle.codes.specs.Layouts.{Layout, most_weight}
use Rattle.written_codes.specs.Listing.{listed_code, within, most_written_qubits, most_written_rows}

-- whether the rows and the columns of m rows over n qubits have at most twelve ones
abbrev pub light : ℕ → ℕ → List ℕ → Bool
light m n rows = sparse most_weight m n rows

-- whether row u of the checks shares an even number of qubits with row g of the generators
abbrev pub shares_even : ℕ → List ℕ → List ℕ → ℕ → ℕ → Bool
shares_even n checks generators u g = not (parity (entry n generators g) (members n (entry n checks u)))

-- what is asked of m checks and k generators over n qubits
abbrev pub written_questions : ℕ → ℕ → ℕ → List ℕ → List ℕ → List Question
written_questions n m k checks generators =
    (within most_written_qubits n && (within most_written_rows m && within most_written_rows k), CountOutOfRange)
    ∷ (just_rows m n checks && just_rows k n generators, WrongLength)
    ∷ (tidy_rows m n checks && tidy_rows k n generators, UnusedBitSet)
    ∷ (light m n checks && light k n generators, DegreeOutOfRange)
    ∷ (all_below m (λ u. all_below k (shares_even n checks generators u)), OddOverlap)
    ∷ []

-- which question is answered with no
unfoldable pub written_refusal : ℕ → ℕ → ℕ → List ℕ → List ℕ → Option Refusal
written_refusal n m k checks generators = first_no (written_questions n m k checks generators)

-- the code: the qubits of a check or a generator are the members of its row
abbrev pub written_code : ℕ → ℕ → ℕ → List ℕ → List ℕ → Layout
written_code n m k checks generators =
    listed_code (tabled m n (entry n checks)) (tabled n m (turned_entry n checks)) (tabled k n (entry n generators)) (tabled n k (turned_entry n generators))
