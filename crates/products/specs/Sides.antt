-- What one side of a graph keeps: its nodes of one kind, joined to those of the other, which are across. Assumes nothing.
use Rattle.std.specs.Prelude.{◌≡◌, ℕ, ◌<◌, ◌≤◌, true, List, length}
use Rattle.patterns.specs.Sets.{has}
use Rattle.graphs.specs.Tanners.{Tanner, Wired, most_nodes, most_neighbours}

-- there are some nodes, and few on either side; each has few neighbours, which are nodes across
pub record Sided (nodes across : ℕ) (rows : ℕ → List ℕ) : Type 0 where
  pub some : 1 ≤ nodes
  pub few : nodes ≤ most_nodes
  pub few_across : across ≤ most_nodes
  pub within : (u v : ℕ) → u < nodes → has (rows u) v ≡ true → v < across
  pub light : (u : ℕ) → u < nodes → length (rows u) ≤ most_neighbours

pub sided_checks : {t : Tanner} → Wired t → Sided t.checks t.variables t.of_check
sided_checks w = record {
  some = w.some_checks;
  few = w.most_checks;
  few_across = w.most_variables;
  within = w.paired.row_within;
  light = w.paired.row_few;
}

pub sided_variables : {t : Tanner} → Wired t → Sided t.variables t.checks t.of_variable
sided_variables w = record {
  some = w.some_variables;
  few = w.most_variables;
  few_across = w.most_checks;
  within = w.paired.column_within;
  light = w.paired.column_few;
}
