use Rattle.std.proofs.Common.{vec_items, ap, ◌∙◌}
use Rattle.std.specs.List.{slice_get}
use Rattle.matrices.proofs.Lookups.{got, neighbour_past, neighbour_here}
use Rattle.matrices.proofs.lists.Lists.neighbour.Goals as goal

pub returns-in_err-list : goal.returns-in_err-list
returns-in_err-list c =
    let h = c.in_err-list.ensures in
    c.from_residual.ensures ∙ neighbour_past (vec_items c.args.self.now.nodes) c.args.u c.args.k (rw c.deref.ensures.value at h.lookup.3)

pub returns : goal.returns
returns c =
    let h = c.in_ok-list.ensures in
    let x = c.in_ok-list.list.now in
    let nodes = vec_items c.args.self.now.nodes in
    c.copied.ensures
    ∙ got c.deref-2.result.now c.args.k c.get-2.result c.get-2.ensures.lookup
    ∙ ap (λ l. slice_get l c.args.k) c.deref-2.ensures.value
    ∙ neighbour_here nodes c.args.u x (rw c.deref.ensures.value at h.lookup.3.0) (rw c.deref.ensures.value at (h.lookup.3.1 x)) c.args.k
