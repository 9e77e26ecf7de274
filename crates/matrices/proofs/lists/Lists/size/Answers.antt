use Rattle.std.proofs.Common.{Some, vec_items, ap, ◌∙◌}
use Rattle.matrices.proofs.Lookups.{size_past, size_here}
use Rattle.matrices.proofs.lists.Lists.size.Goals as goal

pub returns-in_err-list : goal.returns-in_err-list
returns-in_err-list c =
    let h = c.in_err-list.ensures in
    c.from_residual.ensures ∙ size_past (vec_items c.args.self.now.nodes) c.args.u (rw c.deref.ensures.value at h.lookup.3)

pub returns : goal.returns
returns c =
    let h = c.in_ok-list.ensures in
    let x = c.in_ok-list.list.now in
    ap Some c.len.ensures
    ∙ size_here (vec_items c.args.self.now.nodes) c.args.u x (rw c.deref.ensures.value at h.lookup.3.0) (rw c.deref.ensures.value at (h.lookup.3.1 x))
