use Rattle.std.proofs.Common.{Ok}
use Rattle.std.proofs.lemmas.Result.{err_from_is_err_and}
use Rattle.refusals.specs.Questions.{first_no}
use Rattle.refusals.proofs.Asking.{first_no_front, answer_ok, answer_err}
use Rattle.matrices.proofs.Lookups.{size_within}
use Rattle.scans.proofs.Scanning.{held_has, held_all}
use Rattle.patterns.specs.Patterns.{member}
use Rattle.moves.specs.Jobs.{pattern_questions, counted, closed}
use Rattle.moves.specs.Moves.{prune_questions}
use Rattle.moves.specs.Held.{model}
use Rattle.moves.proofs.Asked.{refused_at}
use Rattle.moves.proofs.Prunes.{own_questions, prune_made}
use Rattle.moves.proofs.job.Job.prune.Goals as goal

pub returns-in_err-ask_patterns : goal.returns-in_err-ask_patterns
returns-in_err-ask_patterns g c =
    let l = g.C.Code.layout c.args.code.now in
    let m = model c.args.self.now in
    let a = c.args.g.0 in
    let v = c.args.v.0 in
    let e = c.in_err-ask_patterns.field-0.0 in
    let p = err_from_is_err_and c.from_residual.result c.from_residual.ensures.1 in
    let no = answer_err (first_no (pattern_questions l m)) e c.in_err-ask_patterns.ensures in
    let all = first_no_front (pattern_questions l m) (own_questions l m a v) e no in
    rw (p.1, p.2) (refused_at (first_no (prune_questions l m a v)) m (Ok tt, counted (closed l m v)) e all)

pub returns : goal.returns
returns g c =
    let l = g.C.Code.layout c.args.code.now in
    let m = model c.args.self.now in
    let a = c.args.g.0 in
    let v = c.args.v.0 in
    let yes = answer_ok (first_no (pattern_questions l m)) c.in_ok-ask_patterns.ensures in
    let g_within = size_within l.generators l.of_generator a c.in-Some._size c.in-Some.ensures in
    let v-within = size_within l.qubits l.checks_of v c.in-Some-checks_of._checks c.in-Some-checks_of.ensures in
    let held = held_has l a v c.if-not-holds.ensures in
    let all_open = held_all l (member m.opened) a c.if-not-all_open.ensures in
    prune_made l m a v g_within v-within yes held all_open c.toggle.new.bits c.toggle.ensures.after c.one_more-self.result c.one_more-self.ensures
