-- A code with its checks and its generators exchanged. Assumes nothing.
use Rattle.codes.specs.Layouts.{Layout}

abbrev pub exchanged : Layout → Layout
exchanged c = record {
  qubits = c.qubits;
  checks = c.generators;
  generators = c.checks;
  of_check = c.of_generator;
  of_generator = c.of_check;
  checks_of = c.generators_of;
  generators_of = c.checks_of;
}
