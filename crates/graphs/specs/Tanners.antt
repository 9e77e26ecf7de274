-- What a Tanner graph is, with nothing of how it is held. Assumes nothing.
use Rattle.std.specs.Prelude.{◌≡◌, ℕ, ◌<◌, ◌≤◌, Bool, ◌&&◌, List, nat_le}
use Rattle.patterns.specs.Sets.{has}
use Rattle.matrices.specs.Relations.{Paired}

-- the greatest number of variables, and of checks
abbrev pub most_nodes : ℕ
most_nodes = 96

-- the greatest degree of a variable or a check
abbrev pub most_neighbours : ℕ
most_neighbours = 6

-- the counts of variables and checks, and the neighbours of each in the order in which they are told, which is free
pub record Tanner : Type 0 where
  pub variables : ℕ
  pub checks : ℕ
  pub of_variable : ℕ → List ℕ
  pub of_check : ℕ → List ℕ

-- whether a count of nodes is in its range
abbrev pub counted : ℕ → Bool
counted n = nat_le 1 n && nat_le n most_nodes

-- what every graph keeps: counts and degrees within their limits, and both ends tell the same edges, without repeats
pub record Wired (t : Tanner) : Type 0 where
  pub some_variables : 1 ≤ t.variables
  pub most_variables : t.variables ≤ most_nodes
  pub some_checks : 1 ≤ t.checks
  pub most_checks : t.checks ≤ most_nodes
  pub paired : Paired most_neighbours t.checks t.variables t.of_check t.of_variable

-- the same counts and the same edges, whatever the order in which neighbours are told
pub record Same (s t : Tanner) : Type 0 where
  pub variables : s.variables ≡ t.variables
  pub checks : s.checks ≡ t.checks
  pub of_check : (p v : ℕ) → p < s.checks → has (s.of_check p) v ≡ has (t.of_check p) v
  pub of_variable : (v p : ℕ) → v < s.variables → has (s.of_variable v) p ≡ has (t.of_variable v) p
