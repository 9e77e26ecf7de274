use Rattle.std.proofs.Common.{◌≡◌}
use Rattle.matrices.specs.Adjacent.{lists}
use Rattle.matrices.specs.Relations.{tabled}
use Rattle.matrices.proofs.lists.Lists.of.Given as goal

abbrev pub invariant-loop-a : goal.invariant-loop-a
invariant-loop-a g l = lists l.nodes ≡ tabled l.a l.columns (g.M.Incidence.joined l.m)
