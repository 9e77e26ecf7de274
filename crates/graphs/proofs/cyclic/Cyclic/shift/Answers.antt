use Rattle.std.proofs.Common.{◌≡◌, vec_items, ap, ◌∙◌}
use Rattle.std.specs.List.{slice_get}
use Rattle.matrices.proofs.Lookups.{got}
use Rattle.graphs.specs.Shifts.{shift_below}
use Rattle.graphs.proofs.cyclic.Cyclic.shift.Goals as goal

pub returns : goal.returns
returns c =
    let g = c.args.self.now in
    let k = c.args.k in
    let is : c.copied.result ≡ slice_get (vec_items g.shifts) k =
    c.copied.ensures ∙ got c.deref.result.now k c.get.result c.get.ensures.lookup ∙ ap (λ l. slice_get l k) c.deref.ensures.value in
    record { value = is; bound = shift_below g.count (vec_items g.shifts) g.rises k c.copied.result is }
