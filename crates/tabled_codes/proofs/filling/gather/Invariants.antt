use Rattle.std.proofs.Common.{◌≡◌, ◌++◌}
use Rattle.matrices.specs.Relations.{neighbours}
use Rattle.matrices.proofs.Walks.{rest}
use Rattle.tabled_codes.proofs.filling.gather.Given as goal

abbrev pub invariant-loop-v : goal.invariant-loop-v
invariant-loop-v g l = l.row.items ++ rest g.F.Family.nodes g.F.Family.rows l.v-iterator ≡ neighbours (g.F.Family.nodes l.fn.family) (g.F.Family.rows l.fn.family) l.fn.u
