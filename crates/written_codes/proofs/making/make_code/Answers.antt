use Rattle.std.proofs.Common.{Option, unwrap_or, sym, ap, ◌∙◌, ap₂}
use Rattle.std.proofs.lemmas.Result.{err_from_is_err_and, MatchResult-weaker}
use Rattle.refusals.specs.declared.Refusal.{Refusal}
use Rattle.refusals.specs.declared.Refusal.TheVariants.{OutOfMemory}
use Rattle.refusals.specs.Questions.{first_no}
use Rattle.refusals.proofs.Asking.{answer_ok, answer_err}
use Rattle.matrices.specs.declared.rows.BitRows.{BitRows}
use Rattle.codes.specs.Layouts.{Layout}
use Rattle.written_codes.specs.Writing.{written_questions, written_refusal, written_code}
use Rattle.written_codes.proofs.making.make_code.Goals as goal

-- what two matrices are asked, and the code of both
abbrev asked : BitRows → BitRows → Option Refusal
asked a b = first_no (written_questions a.columns a.rows b.rows a.bytes.now b.bytes.now)

abbrev made : BitRows → BitRows → Layout
made a b = written_code a.columns a.rows b.rows a.bytes.now b.bytes.now

pub returns-in_err-ask : goal.returns-in_err-ask
unfolding written_refusal
returns-in_err-ask c =
    let p = err_from_is_err_and c.from_residual.result c.from_residual.ensures.1 in
    let no = answer_err (asked c.over.result c.over-2.result) c.in_err-ask.field-0.0 c.in_err-ask.ensures in
    rw (p.1, p.2) (sym (ap (λ r. unwrap_or r OutOfMemory) (sym (ap₂ asked c.over.ensures c.over-2.ensures) ∙ no)))

pub build-requires : goal.build-requires
build-requires c = answer_ok (asked c.over.result c.over-2.result) c.in_ok-ask.ensures

pub returns : goal.returns
unfolding written_refusal
returns c =
    let accepted = sym (ap₂ asked c.over.ensures c.over-2.ensures) ∙ answer_ok (asked c.over.result c.over-2.result) c.in_ok-ask.ensures in
    MatchResult-weaker c.build.result c.build.ensures
    (λ w is. (accepted, is ∙ ap₂ made c.over.ensures c.over-2.ensures))
    (λ e is. is ∙ sym (ap (λ r. unwrap_or r OutOfMemory) accepted))
