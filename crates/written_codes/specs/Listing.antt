-- The code whose checks and generators have the listed qubits. Assumes nothing.
use Rattle.std.specs.Prelude.{ℕ, Bool, not, ◌&&◌, List, length, nat_le}
use Rattle.patterns.specs.Sets.{has, parity, all_below}
use Rattle.matrices.specs.Relations.{listed}
use Rattle.codes.specs.Layouts.{Layout}

-- from the lists of the checks, of the qubits by check, of the generators and of the qubits by generator
abbrev pub listed_code : List (List ℕ) → List (List ℕ) → List (List ℕ) → List (List ℕ) → Layout
listed_code checks by_check generators by_generator = record {
  qubits = length by_check;
  checks = length checks;
  generators = length generators;
  of_check = listed checks;
  of_generator = listed generators;
  checks_of = listed by_check;
  generators_of = listed by_generator;
}

-- the largest numbers of qubits, and of checks or of generators
abbrev pub most_written_qubits : ℕ
most_written_qubits = 256

abbrev pub most_written_rows : ℕ
most_written_rows = 128

-- whether a count is at least one and not above its limit
abbrev pub within : ℕ → ℕ → Bool
within most n = nat_le 1 n && nat_le n most

-- whether each check shares an even number of qubits with each generator
abbrev pub all_even : List (List ℕ) → List (List ℕ) → Bool
all_even checks generators = all_below (length checks) (λ u. all_below (length generators) (λ g. not (parity (has (listed generators g)) (listed checks u))))
