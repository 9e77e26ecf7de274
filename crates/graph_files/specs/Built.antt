-- A relation within the limits is a graph. Assumes nothing.
use Rattle.std.specs.Prelude.{◌≡◌, ℕ, ◌≤◌, true, List, length, nat_le}
use Rattle.std.proofs.lemmas.Bool.{and_parts, leb-true}
use Rattle.matrices.specs.Relations.{transposed, short}
use Rattle.matrices.proofs.Tables.{paired_listed}
use Rattle.graphs.specs.Tanners.{Wired, counted, most_nodes, most_neighbours}
use Rattle.graph_files.specs.Listed.{listed_graph}

pub in_range : (n : ℕ) → counted n ≡ true → (1 ≤ n) × (n ≤ most_nodes)
in_range n h = let both = and_parts (nat_le 1 n) (nat_le n most_nodes) h in (leb-true 1 n both.0, leb-true n most_nodes both.1)

pub wired_listed : (checks variables : List (List ℕ))
    → checks ≡ transposed (length checks) variables
    → variables ≡ transposed (length variables) checks
    → counted (length checks) ≡ true
    → counted (length variables) ≡ true
    → short most_neighbours checks ≡ true
    → short most_neighbours variables ≡ true
    → Wired (listed_graph checks variables)
wired_listed checks variables by_check by_variable m n few_variables few_checks = record {
  some_variables = (in_range (length variables) n).0;
  most_variables = (in_range (length variables) n).1;
  some_checks = (in_range (length checks) m).0;
  most_checks = (in_range (length checks) m).1;
  paired = paired_listed most_neighbours checks variables by_check by_variable few_variables few_checks;
}
