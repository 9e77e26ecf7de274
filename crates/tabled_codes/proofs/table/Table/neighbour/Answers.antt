use Rattle.std.proofs.Common.{vec_items, ap, ◌∙◌}
use Rattle.std.specs.List.{slice_get}
use Rattle.matrices.proofs.Lookups.{got}
use Rattle.tabled_codes.proofs.Reading.{neighbour_here}
use Rattle.tabled_codes.proofs.table.Table.neighbour.Goals as goal

pub returns : goal.returns
returns c rest =
    let h = c.in_ok-row.ensures in
    let x = c.in_ok-row.row.now in
    c.copied.ensures
    ∙ got c.deref-2.result.now c.args.k c.get-2.result c.get-2.ensures.lookup
    ∙ ap (λ l. slice_get l c.args.k) c.deref-2.ensures.0
    ∙ neighbour_here (vec_items c.args.self.now.nodes) rest c.args.u x (rw c.deref.ensures.value at h.lookup.3.0) (rw c.deref.ensures.value at (h.lookup.3.1 x)) c.args.k
