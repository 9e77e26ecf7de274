-- The graph whose checks and variables have the listed neighbours. Assumes nothing.
use Rattle.std.specs.Prelude.{ℕ, List, length}
use Rattle.matrices.specs.Relations.{listed}
use Rattle.graphs.specs.Tanners.{Tanner}

abbrev pub listed_graph : List (List ℕ) → List (List ℕ) → Tanner
listed_graph checks variables = record {
  variables = length variables;
  checks = length checks;
  of_variable = listed variables;
  of_check = listed checks;
}
