-- A graph as a code with no generators: its variables are the qubits, its checks the checks. Assumes nothing.
use Rattle.std.specs.Prelude.{[]}
use Rattle.graphs.specs.Tanners.{Tanner}
use Rattle.codes.specs.Layouts.{Layout}

abbrev pub bare : Tanner → Layout
bare t = record {
  qubits = t.variables;
  checks = t.checks;
  generators = 0;
  of_check = t.of_check;
  of_generator = λ _. [];
  checks_of = t.of_variable;
  generators_of = λ _. [];
}
