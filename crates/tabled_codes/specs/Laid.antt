-- The code that four tables tell. Assumes nothing.
use Rattle.std.specs.Prelude.{ℕ, List, length}
use Rattle.codes.specs.Layouts.{Layout}
use Rattle.tabled_codes.specs.declared.table.Table.{Table}
use Rattle.tabled_codes.specs.Rows.{lists, over}

-- how many nodes a table has
abbrev pub nodes_of : Table → ℕ
nodes_of t = length (lists t.nodes)

-- the neighbours of each, and past the last node those of another relation
abbrev pub rows_over : Table → (ℕ → List ℕ) → ℕ → List ℕ
rows_over t rest = over (lists t.nodes) rest

-- from the qubits of each check and of each generator, and the checks and the generators of each qubit; of nodes that there are not, what another code tells of them
abbrev pub laid : Table → Table → Table → Table → Layout → Layout
laid checks generators by_check by_generator rest = record {
  qubits = nodes_of by_check;
  checks = nodes_of checks;
  generators = nodes_of generators;
  of_check = rows_over checks rest.of_check;
  of_generator = rows_over generators rest.of_generator;
  checks_of = rows_over by_check rest.checks_of;
  generators_of = rows_over by_generator rest.generators_of;
}
