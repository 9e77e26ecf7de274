use Rattle.std.proofs.Common.{◌≡◌, ◌+◌, ◌<◌, ◌++◌, length, drop, Ok, sym, ap, ◌∙◌, ap₂, arith}
use Rattle.refusals.proofs.Writing.{answered_room, written_room, answered_short, written_short}
use Rattle.reports.specs.Reports.{told, report_of, pattern_lines}
use Rattle.reports.proofs.Lines.{length_report}
use Rattle.reports.proofs.writing.write_lines.Goals as goal

pub returns-then-out-size-clause-value : goal.returns-then-out-size-clause-value
returns-then-out-size-clause-value g c =
    let t = told g.C.Code.LETTER (g.C.Code.layout c.args.code.now) c.args.report in
    let out = c.args.out.now in
    let short : length out < length (report_of t) = omega (arith, length_report t, ap length c.short_lines-short.ensures) in
    sym (answered_short (report_of t) out short)

pub returns-then-out-size-clause-after : goal.returns-then-out-size-clause-after
returns-then-out-size-clause-after g c =
    let t = told g.C.Code.LETTER (g.C.Code.layout c.args.code.now) c.args.report in
    let out = c.args.out.now in
    let short : length out < length (report_of t) = omega (arith, length_report t, ap length c.short_lines-short.ensures) in
    sym (written_short (report_of t) out short)

pub returns-clause-value : goal.returns-clause-value
returns-clause-value g c =
    let t = told g.C.Code.LETTER (g.C.Code.layout c.args.code.now) c.args.report in
    let size : c.len.result + c.size.result + c.size-2.result ≡ length (report_of t) = omega (arith, length_report t, ap length c.short_lines-short.ensures) in
    ap Ok size ∙ sym (answered_room (report_of t) c.args.out.now (omega (arith, size)))

pub returns-clause-after : goal.returns-clause-after
unfolding report_of
returns-clause-after g c =
    let t = told g.C.Code.LETTER (g.C.Code.layout c.args.code.now) c.args.report in
    let out = c.args.out.now in
    let size : c.len.result + c.size.result + c.size-2.result ≡ length (report_of t) = omega (arith, length_report t, ap length c.short_lines-short.ensures) in
    let lines : c.fill.new.out ≡ report_of t = c.fill.ensures ∙ ap (λ x. x ++ pattern_lines t) (c.as_slice.ensures.value ∙ c.short_lines-short.ensures) in
    ap₂ (λ x n. x ++ drop n out) lines size ∙ sym (written_room (report_of t) out (omega (arith, size)))
