-- The product code of two graphs. Assumes nothing.
use Rattle.std.specs.Prelude.{◌≡◌, ℕ, ◌+◌, ◌*◌, ◌<◌, Bool, ◌&&◌, ◌==◌}
use Rattle.patterns.specs.Sets.{has}
use Rattle.graphs.specs.Tanners.{Tanner}
use Rattle.codes.specs.Layouts.{Layout}
use Rattle.products.specs.Pairs.{by_first, by_second, two_blocks, in_block}

-- The first graph is a and the second b. The qubits are the pairs (i, j) of a variable of each, and then the pairs (p, q) of a check of each.
-- Check (i, q) holds (i, j) for each j joined to q, and (p, q) for each p joined to i.
-- Generator (p, j) holds (i, j) for each i joined to p, and (p, q) for each q joined to j.
abbrev pub product_of : Tanner → Tanner → Layout
product_of a b = record {
  qubits = a.variables * b.variables + a.checks * b.checks;
  checks = a.variables * b.checks;
  generators = a.checks * b.variables;
  of_check = two_blocks (a.variables * b.variables) (by_second b.checks b.variables b.of_check) (by_first b.checks a.of_variable);
  of_generator = two_blocks (a.variables * b.variables) (by_first b.variables a.of_check) (by_second b.variables b.checks b.of_variable);
  checks_of = in_block (a.variables * b.variables) (by_second b.variables b.checks b.of_variable) (by_first b.checks a.of_check);
  generators_of = in_block (a.variables * b.variables) (by_first b.variables a.of_variable) (by_second b.checks b.variables b.of_check);
}

-- entry (p, v) of the matrix H of a graph, whose rows are its checks
abbrev pub matrix_of : Tanner → ℕ → ℕ → Bool
matrix_of t p v = has (t.of_check p) v

-- With A and B the matrices of the two graphs, the check matrix is the block row (identity ⊗ B, transpose of A ⊗ identity),
-- and the generator matrix is the block row (A ⊗ identity, identity ⊗ transpose of B), entry by entry.
pub record BlockRows (a b : Tanner) (c : Layout) : Type 0 where
  pub check_left : (i q i' j : ℕ) → i < a.variables → q < b.checks → i' < a.variables → j < b.variables
      → has (c.of_check (i * b.checks + q)) (i' * b.variables + j) ≡ (i == i' && matrix_of b q j)
  pub check_right : (i q p q' : ℕ) → i < a.variables → q < b.checks → p < a.checks → q' < b.checks
      → has (c.of_check (i * b.checks + q)) (a.variables * b.variables + (p * b.checks + q')) ≡ (matrix_of a p i && q == q')
  pub generator_left : (p j i j' : ℕ) → p < a.checks → j < b.variables → i < a.variables → j' < b.variables
      → has (c.of_generator (p * b.variables + j)) (i * b.variables + j') ≡ (matrix_of a p i && j == j')
  pub generator_right : (p j p' q : ℕ) → p < a.checks → j < b.variables → p' < a.checks → q < b.checks
      → has (c.of_generator (p * b.variables + j)) (a.variables * b.variables + (p' * b.checks + q)) ≡ (p == p' && matrix_of b q j)
