use Rattle.std.proofs.Common.{◌≡◌, cond, ltb, [], ◌∷◌, Ok, sym, refl, ap, ◌∙◌, ap₂}
use Rattle.std.proofs.lemmas.Result.{err_from_is_err_and}
use Rattle.refusals.specs.declared.Refusal.TheVariants.{NumberOutOfRange}
use Rattle.refusals.specs.Questions.{first_no}
use Rattle.refusals.proofs.Asking.{first_no_front, answer_ok, answer_err}
use Rattle.patterns.specs.Patterns.{member}
use Rattle.matrices.proofs.Lookups.{size_within}
use Rattle.scans.proofs.Scanning.{only_one_of}
use Rattle.moves.specs.Jobs.{pattern_questions}
use Rattle.scans.specs.Scans.{single, meeting}
use Rattle.moves.specs.Moves.{peel_questions, peel_by}
use Rattle.moves.specs.Held.{model}
use Rattle.moves.proofs.Asked.{refused_at, lengths_asked, model_same}
use Rattle.moves.proofs.Peels.{bit_byte, half_way, peeled_below, peel_made, peel_accepted}
use Rattle.moves.proofs.job.Job.peel.Goals as goal
use Rattle.moves.proofs.job.Job.peel.Goals.{then-changed, else-changed}

pub returns-in_err-ask_patterns : goal.returns-in_err-ask_patterns
returns-in_err-ask_patterns g c =
    let l = g.C.Code.layout c.args.code.now in
    let m = model c.args.self.now in
    let u = c.args.u.0 in
    let e = c.in_err-ask_patterns.field-0.0 in
    let p = err_from_is_err_and c.from_residual.result c.from_residual.ensures.1 in
    let no = answer_err (first_no (pattern_questions l m)) e c.in_err-ask_patterns.ensures in
    let all = first_no_front (pattern_questions l m) ((ltb u l.checks, NumberOutOfRange) ∷ []) e no in
    rw (p.1, p.2) (refused_at (first_no (peel_questions l m u)) m (peel_by l m u (single (meeting l (member m.opened) u))) e all)

pub toggle_checks-requires : goal.toggle_checks-requires
toggle_checks-requires g c =
    let l = g.C.Code.layout c.args.code.now in
    let m = model c.args.self.now in
    let u = c.args.u.0 in
    let yes = answer_ok (first_no (pattern_questions l m)) c.in_ok-ask_patterns.ensures in
    let within = size_within l.checks l.of_check u c.in-Some._size c.in-Some.ensures in
    let only = c.in-Some-only_open.ensures ∙ only_one_of l (member m.opened) u within in
    record { v_bound = peeled_below l (g.met.C.Code.sound c.args.code.now) m u c.in-Some-only_open.qubit.0 within only; fits = (lengths_asked l m yes).remaining }

pub returns : goal.returns
returns g c =
    let l = g.C.Code.layout c.args.code.now in
    let sound = g.met.C.Code.sound c.args.code.now in
    let m = model c.args.self.now in
    let u = c.args.u.0 in
    let v = c.in-Some-only_open.qubit.0 in
    let yes = answer_ok (first_no (pattern_questions l m)) c.in_ok-ask_patterns.ensures in
    let within = size_within l.checks l.of_check u c.in-Some._size c.in-Some.ensures in
    let only = c.in-Some-only_open.ensures ∙ only_one_of l (member m.opened) u within in
    let changes = c.remains-changed.result in
    let was : model c.if-changed.self ≡ half_way l m v changes = elim c.if-changed.branch [
      | then-changed w ↦ ap model w.self-is ∙ model_same w.toggle_checks.ensures refl w.toggle.ensures.after refl ∙ sym (ap (half_way l m v) w.if-changed.true)
      | else-changed w ↦ ap model w.self-is ∙ sym (ap (half_way l m v) w.if-changed.false)
    ] in
    let after = peel_made l sound m u v within only (lengths_asked l m yes) changes c.remains-changed.ensures (model c.if-changed.self) was c.toggle-2.new.bits c.toggle-2.ensures.after c.one_more-self.result c.one_more-self.ensures in
    ap₂ (λ x j. (Ok (v, x), j)) (c.from.ensures ∙ bit_byte changes ∙ ap (λ b. cond b 1 0) c.remains-changed.ensures) after
    ∙ peel_accepted l sound m u v within only yes
