use Rattle.std.proofs.Common.{◌∙◌, arith}
use Rattle.moves.specs.Held.{model}
use Rattle.refusals.proofs.Asking.{answer_ok}
use Rattle.jobs.specs.Runs.{run_moves}
use Rattle.jobs.specs.Progress.{none_yet}
use Rattle.jobs.proofs.Running.{came_on, counted_all, ended_counts, ended_after, few_moves, run_accepted}
use Rattle.jobs.proofs.Runs.{run_ends}
use Rattle.jobs.proofs.TwoJobs.{two_jobs}
use Rattle.jobs.proofs.run.run.Goals as goal

pub returns-in_err-ask_patterns-clause-ends : goal.returns-in_err-ask_patterns-clause-ends
returns-in_err-ask_patterns-clause-ends g c = run_ends (g.C.Code.layout c.args.code.now) (g.met.C.Code.sound c.args.code.now)

pub returns-in_err-ask_patterns-clause-agree : goal.returns-in_err-ask_patterns-clause-agree
returns-in_err-ask_patterns-clause-agree g c = two_jobs (g.C.Code.layout c.args.code.now) (g.met.C.Code.sound c.args.code.now)

pub flip_all-peels-requires-clause-few : goal.flip_all-peels-requires-clause-few
flip_all-peels-requires-clause-few g c =
    let l = g.C.Code.layout c.args.code.now in
    omega (arith, c.close_all-closed.ensures.came.few, few_moves l (g.met.C.Code.sound c.args.code.now) (model c.args.job.now) (answer_ok _ c.in_ok-ask_patterns.ensures))

pub returns-clause-value : goal.returns-clause-value
returns-clause-value g c =
    let l = g.C.Code.layout c.args.code.now in
    let sound = g.met.C.Code.sound c.args.code.now in
    let start = model c.args.job.now in
    let first = c.close_all-closed in
    let last = c.flip_all-peels in
    let m = model last.new.job in
    let n = last.result in
    let way = came_on l none_yet start first.result (model first.new.job) n m first.ensures.came last.ensures.came in
    let none = last.ensures.ended in
    let counts = ended_counts l sound none_yet start n m way none ∙ counted_all (run_moves l start) in
    run_accepted l start c.in_ok-ask_patterns.ensures n m c.verdict-verdict.result counts (ended_after l sound none_yet start n m way none) c.verdict-verdict.ensures

pub returns-clause-ends : goal.returns-clause-ends
returns-clause-ends g c = run_ends (g.C.Code.layout c.args.code.now) (g.met.C.Code.sound c.args.code.now)

pub returns-clause-agree : goal.returns-clause-agree
returns-clause-agree g c = two_jobs (g.C.Code.layout c.args.code.now) (g.met.C.Code.sound c.args.code.now)
