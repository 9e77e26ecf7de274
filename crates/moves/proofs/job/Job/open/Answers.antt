use Rattle.std.proofs.Common.{replicate, Ok, refl, ap, ◌∙◌}
use Rattle.std.proofs.lemmas.Result.{err_from_is_err_and}
use Rattle.refusals.specs.Questions.{first_no}
use Rattle.refusals.proofs.Asking.{answer_ok, answer_err}
use Rattle.patterns.proofs.Filled.{filled_nothing}
use Rattle.moves.specs.Jobs.{opening_questions, opening}
use Rattle.moves.specs.Held.{model}
use Rattle.moves.proofs.Asked.{refused_at, accepted_at, model_same, remaining_fits, opened_fits, correction_width}
use Rattle.moves.proofs.job.Job.open.Goals as goal

pub returns-in_err-ask_opening : goal.returns-in_err-ask_opening
returns-in_err-ask_opening g c =
    let l = g.C.Code.layout c.args.code.now in
    let m = model c.args.self.now in
    let s = c.args.syndrome.now in
    let e = c.args.erasure.now in
    let p = err_from_is_err_and c.from_residual.result c.from_residual.ensures.1 in
    let no = answer_err (first_no (opening_questions l m s e)) c.in_err-ask_opening.field-0.0 c.in_err-ask_opening.ensures in
    rw (p.1, p.2) (refused_at (first_no (opening_questions l m s e)) m (Ok tt, opening l s e) c.in_err-ask_opening.field-0.0 no)

pub copy_from_slice-requires : goal.copy_from_slice-requires
copy_from_slice-requires g c =
    let l = g.C.Code.layout c.args.code.now in
    let m = model c.args.self.now in
    let s = c.args.syndrome.now in
    let e = c.args.erasure.now in
    remaining_fits l m s e (answer_ok (first_no (opening_questions l m s e)) c.in_ok-ask_opening.ensures)

pub copy_from_slice-requires-2 : goal.copy_from_slice-requires-2
copy_from_slice-requires-2 g c =
    let l = g.C.Code.layout c.args.code.now in
    let m = model c.args.self.now in
    let s = c.args.syndrome.now in
    let e = c.args.erasure.now in
    opened_fits l m s e (answer_ok (first_no (opening_questions l m s e)) c.in_ok-ask_opening.ensures)

pub returns : goal.returns
returns g c =
    let l = g.C.Code.layout c.args.code.now in
    let m = model c.args.self.now in
    let s = c.args.syndrome.now in
    let e = c.args.erasure.now in
    let yes = answer_ok (first_no (opening_questions l m s e)) c.in_ok-ask_opening.ensures in
    let cleared = c.fill.ensures.after (λ y e. e) ∙ ap (λ n. replicate n 0) (correction_width l m s e yes) ∙ filled_nothing l.qubits in
    ap (λ a. (Ok tt, a)) (model_same c.copy_from_slice.ensures.after c.copy_from_slice-2.ensures.after cleared refl)
    ∙ accepted_at (first_no (opening_questions l m s e)) m (Ok tt, opening l s e) yes
