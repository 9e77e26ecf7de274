use Rattle.std.proofs.Common.{◌<◌, ltb, [], ◌∷◌, sym, subst}
use Rattle.std.proofs.lemmas.Result.{err_from_is_err_and}
use Rattle.refusals.specs.declared.Refusal.TheVariants.{NumberOutOfRange}
use Rattle.refusals.specs.Questions.{first_no}
use Rattle.refusals.proofs.Asking.{first_no_front, answer_ok, answer_err}
use Rattle.matrices.proofs.Lookups.{size_within}
use Rattle.flips.specs.Flips.{flip_set}
use Rattle.flips.specs.Held.{told}
use Rattle.flips.proofs.Gathered.{all_by_has}
use Rattle.moves.specs.Jobs.{pattern_questions}
use Rattle.moves.specs.Moves.{flip_questions, flip_by}
use Rattle.moves.specs.Held.{model}
use Rattle.moves.proofs.Asked.{refused_at, lengths_asked}
use Rattle.moves.proofs.Flips.{Flipped, flipped_is, flip_made}
use Rattle.moves.proofs.job.Job.flip.Goals as goal
use Rattle.moves.proofs.job.Job.flip.Goals.{After-qubits-qubits}
use Rattle.moves.proofs.job.Job.flip.Given.{Over}

pub returns-in_err-ask_patterns : goal.returns-in_err-ask_patterns
returns-in_err-ask_patterns g c =
    let l = g.C.Code.layout c.args.code.now in
    let m = model c.args.self.now in
    let a = c.args.g.0 in
    let e = c.in_err-ask_patterns.field-0.0 in
    let p = err_from_is_err_and c.from_residual.result c.from_residual.ensures.1 in
    let no = answer_err (first_no (pattern_questions l m)) e c.in_err-ask_patterns.ensures in
    let all = first_no_front (pattern_questions l m) ((ltb a l.generators, NumberOutOfRange) ∷ []) e no in
    rw (p.1, p.2) (refused_at (first_no (flip_questions l m a)) m (flip_by l m (flip_set l m.remaining m.opened a)) e all)

flipped : (g : Over) (c : After-qubits-qubits g) → Flipped (g.C.Code.layout c.args.code.now) (model c.args.self.now) c.args.g.0 c.in-Some-best_flip.flip.fall c.qubits-qubits.result.now
flipped g c =
    let l = g.C.Code.layout c.args.code.now in
    let m = model c.args.self.now in
    let a = c.args.g.0 in
    let yes = answer_ok (first_no (pattern_questions l m)) c.in_ok-ask_patterns.ensures in
    let below = size_within l.generators l.of_generator a c.in-Some._size c.in-Some.ensures in
    let F = c.in-Some-best_flip.flip in
    subst (Flipped l m a F.fall) (sym c.qubits-qubits.ensures.value) (flipped_is l m a below yes F.fall (told F).1 c.in-Some-best_flip.ensures)

pub toggle_syndrome-requires : goal.toggle_syndrome-requires
toggle_syndrome-requires g c =
    let l = g.C.Code.layout c.args.code.now in
    let m = model c.args.self.now in
    let yes = answer_ok (first_no (pattern_questions l m)) c.in_ok-ask_patterns.ensures in
    let f = flipped g (goal.at.toggle_syndrome-requires g c).After-qubits-qubits in
    record { fits = (lengths_asked l m yes).remaining; in_range = all_by_has (λ v. v < l.qubits) c.qubits-qubits.result.now f.within; apart = f.apart }

pub returns : goal.returns
returns g c =
    let l = g.C.Code.layout c.args.code.now in
    let m = model c.args.self.now in
    let a = c.args.g.0 in
    let yes = answer_ok (first_no (pattern_questions l m)) c.in_ok-ask_patterns.ensures in
    let below = size_within l.generators l.of_generator a c.in-Some._size c.in-Some.ensures in
    flip_made l m a below yes c.in-Some-best_flip.flip.fall c.qubits-qubits.result.now (flipped g (goal.at.returns g c).After-qubits-qubits)
    c.toggle_syndrome.new.remaining c.toggle_all.new.bits c.one_more-self.result c.toggle_syndrome.ensures c.toggle_all.ensures c.one_more-self.ensures
