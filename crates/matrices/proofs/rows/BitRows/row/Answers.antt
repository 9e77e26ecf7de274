use Rattle.std.proofs.Common.{◌*◌, take, drop, ap, ◌∙◌}
use Rattle.matrices.proofs.Cuts.{cut_within}
use Rattle.matrices.proofs.rows.BitRows.row.Goals as goal

pub returns : goal.returns
returns c =
    let bytes = c.args.self.now.bytes.now in
    let w = c.width-width.result in
    cut_within bytes (w * c.args.u) w c.min-from.result c.min-to.result c.min-from.ensures c.min-to.ensures
    ∙ ap (λ n. take n (drop (n * c.args.u) bytes)) c.width-width.ensures
