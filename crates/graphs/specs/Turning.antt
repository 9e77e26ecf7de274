-- A graph with its variables and its checks exchanged. Assumes nothing.
use Rattle.graphs.specs.Tanners.{Tanner}

abbrev pub turned : Tanner → Tanner
turned t = record {
  variables = t.checks;
  checks = t.variables;
  of_variable = t.of_check;
  of_check = t.of_variable;
}
