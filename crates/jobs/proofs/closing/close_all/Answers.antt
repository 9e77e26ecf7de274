use Rattle.std.proofs.Common.{◌<◌, sym, subst, arith}
use Rattle.moves.specs.Jobs.{Model}
use Rattle.moves.specs.Held.{model}
use Rattle.jobs.specs.declared.counting.Counts.{Counts}
use Rattle.jobs.specs.declared.closing.Cursors.{Cursors}
use Rattle.jobs.specs.Runs.{enough}
use Rattle.jobs.specs.Closings.{as_move, Passed, cursors_after}
use Rattle.jobs.specs.Progress.{with_move, none_yet, Came}
use Rattle.jobs.proofs.Running.{falls, goes_on, few_moves}
use Rattle.jobs.proofs.Closed.{step_next, step_shuts, step_passed}
use Rattle.jobs.proofs.closing.close_all.Goals as goal

pub loop-step-smaller : goal.loop-step-smaller
loop-step-smaller g c =
    let l = g.C.Code.layout c.args.code.now in
    let sound = g.met.C.Code.sound c.args.code.now in
    let m = model c.loop-step.job in
    let step = c.in-Some.step in
    let way = c.loop-step.invariant.0 in
    let less = falls l sound none_yet (model c.args.job.now) c.loop-step.counts m way (as_move step) (step_next l sound m way.asked step c.in-Some.ensures) in
    subst (λ (x : Model). enough x < enough m) (sym c.make.ensures) less

pub after-from-requires : goal.after-from-requires
after-from-requires g c =
    let l = g.C.Code.layout c.args.code.now in
    step_shuts l (g.met.C.Code.sound c.args.code.now) (model c.loop-step.job) c.loop-step.invariant.0.asked c.in-Some.step c.in-Some.ensures

pub with-counts-requires : goal.with-counts-requires
with-counts-requires g c =
    let l = g.C.Code.layout c.args.code.now in
    let sound = g.met.C.Code.sound c.args.code.now in
    omega (arith, few_moves l sound (model c.args.job.now) c.requires, c.loop-step.invariant.0.few)

pub loop-step-preserved : goal.loop-step-preserved
loop-step-preserved g c =
    let l = g.C.Code.layout c.args.code.now in
    let sound = g.met.C.Code.sound c.args.code.now in
    let start = model c.args.job.now in
    let m = model c.loop-step.job in
    let step = c.in-Some.step in
    let way = c.loop-step.invariant.0 in
    let told = c.in-Some.ensures in
    let on = goes_on l sound none_yet start c.loop-step.counts m way (as_move step) (step_next l sound m way.asked step told) in
    let past = step_passed l sound m way.asked c.loop-step.from c.loop-step.invariant.1 step told in
    let made = subst (λ (x : Model). Came l none_yet start (with_move c.loop-step.counts (as_move step)) x × Passed l x (cursors_after l c.loop-step.from step)) (sym c.make.ensures) (on, past) in
    let x = model c.make.new.job in (
      subst (λ (n : Counts). Came l none_yet start n x) (sym c.with-counts.ensures) made.0,
      subst (λ (at : Cursors). Passed l x at) (sym c.after-from.ensures) made.1,
    )
