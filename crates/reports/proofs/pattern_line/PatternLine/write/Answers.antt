use Rattle.std.proofs.Common.{◌∙◌, arith}
use Rattle.patterns.specs.Hex.{hexed}
use Rattle.patterns.proofs.Hexing.{length_hexed}
use Rattle.reports.proofs.Filled.{written_whole}
use Rattle.reports.proofs.pattern_line.PatternLine.write.Goals as goal

pub returns : goal.returns
returns c =
    let bytes = c.args.self.bytes.now in
    let digits = c.split_at_mut-digits.result.0.now in
    let whole = written_whole (hexed bytes) digits (omega (arith, length_hexed bytes, c.split_at_mut-digits.ensures.front_len)) in
    cc (c.copy_from_slice.ensures.after, c.write_hex.ensures.after ∙ whole, c.copy_from_slice-2.ensures.after)
