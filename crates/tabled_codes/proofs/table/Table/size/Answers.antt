use Rattle.std.proofs.Common.{Some, vec_items, ap, ◌∙◌}
use Rattle.tabled_codes.proofs.Reading.{size_here}
use Rattle.tabled_codes.proofs.table.Table.size.Goals as goal

pub returns : goal.returns
returns c rest =
    let h = c.in_ok-row.ensures in
    let x = c.in_ok-row.row.now in
    ap Some c.len.ensures.value
    ∙ size_here (vec_items c.args.self.now.nodes) rest c.args.u x (rw c.deref.ensures.value at h.lookup.3.0) (rw c.deref.ensures.value at (h.lookup.3.1 x))
