use Rattle.std.proofs.Common.{arith}
use Rattle.matrices.specs.Adjacent.{lists}
use Rattle.matrices.proofs.Tables.{size_short}
use Rattle.matrices.proofs.sparse.Sparse.column_size.Goals as goal

pub overflow_cast-result : goal.overflow_cast-result
overflow_cast-result g c =
    let s = c.args.self.now in
    omega (arith, g.MOST.fits, size_short g.row.MOST (lists s.relation.columns.nodes) s.few_in_columns c.args.u c.in_ok-size.size c.in_ok-size.ensures)
