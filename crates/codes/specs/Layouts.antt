-- What a code is, with nothing of how it is held. Assumes nothing.
use Rattle.std.specs.Prelude.{◌≡◌, ℕ, ◌<◌, ◌≤◌, false, List}
use Rattle.patterns.specs.Sets.{has, parity}
use Rattle.matrices.specs.Relations.{Paired}

-- the largest numbers of qubits, of checks and of generators
abbrev pub most_qubits : ℕ
most_qubits = 18432

abbrev pub most_rows : ℕ
most_rows = 9216

-- the largest weight: of the qubits in a check or a generator, and of the checks or the generators of a qubit
abbrev pub most_weight : ℕ
most_weight = 12

-- three counts and two relations: which qubits lie in each check, and which in each generator, told from both sides, in an order that is free
pub record Layout : Type 0 where
  pub qubits : ℕ
  pub checks : ℕ
  pub generators : ℕ
  pub of_check : ℕ → List ℕ
  pub of_generator : ℕ → List ℕ
  pub checks_of : ℕ → List ℕ
  pub generators_of : ℕ → List ℕ

-- what every code keeps
pub record Sound (c : Layout) : Type 0 where
  pub some_qubits : 1 ≤ c.qubits
  pub few_qubits : c.qubits ≤ most_qubits
  pub few_checks : c.checks ≤ most_rows
  pub few_generators : c.generators ≤ most_rows
  pub by_check : Paired most_weight c.checks c.qubits c.of_check c.checks_of
  pub by_generator : Paired most_weight c.generators c.qubits c.of_generator c.generators_of
  pub even : (u g : ℕ) → u < c.checks → g < c.generators → parity (has (c.of_generator g)) (c.of_check u) ≡ false
