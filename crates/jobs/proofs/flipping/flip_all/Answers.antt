use Rattle.std.proofs.Common.{◌<◌, sym, ap, subst, arith}
use Rattle.moves.specs.Jobs.{Model}
use Rattle.moves.specs.Held.{model}
use Rattle.jobs.specs.Moving.{flip}
use Rattle.jobs.specs.Runs.{enough}
use Rattle.jobs.specs.Closings.{NothingCloses}
use Rattle.jobs.specs.Progress.{with_move, Came}
use Rattle.jobs.proofs.Running.{falls, goes_on}
use Rattle.jobs.proofs.Flipped.{flip_next, still_closed}
use Rattle.jobs.proofs.flipping.flip_all.Goals as goal

pub overflow_add-counts : goal.overflow_add-counts
overflow_add-counts g c =
    let l = g.C.Code.layout c.args.code.now in
    let m = model c.loop-g.job in
    let n = c.loop-g.counts in
    let k = flip c.in-Some.g.0 in
    let less = falls l (g.met.C.Code.sound c.args.code.now) c.args.counts (model c.args.job.now) n m c.loop-g.invariant.0 k (flip_next l m c.in-Some.g.0 c.loop-g.invariant.1 c.in-Some.ensures) in
    omega (arith, less, c.loop-g.invariant.0.few, c.requires.few)

pub loop-g-smaller : goal.loop-g-smaller
loop-g-smaller g c =
    let l = g.C.Code.layout c.args.code.now in
    let m = model c.loop-g.job in
    let n = c.loop-g.counts in
    let k = flip c.in-Some.g.0 in
    let less = falls l (g.met.C.Code.sound c.args.code.now) c.args.counts (model c.args.job.now) n m c.loop-g.invariant.0 k (flip_next l m c.in-Some.g.0 c.loop-g.invariant.1 c.in-Some.ensures) in
    subst (λ (x : Model). enough x < enough m) (sym (ap (λ r. r.1) c.flip.ensures)) less

pub loop-g-preserved : goal.loop-g-preserved
loop-g-preserved g c =
    let l = g.C.Code.layout c.args.code.now in
    let start = model c.args.job.now in
    let m = model c.loop-g.job in
    let n = c.loop-g.counts in
    let a = c.in-Some.g.0 in
    let on = goes_on l (g.met.C.Code.sound c.args.code.now) c.args.counts start n m c.loop-g.invariant.0 (flip a) (flip_next l m a c.loop-g.invariant.1 c.in-Some.ensures) in
    subst (λ (x : Model). Came l c.args.counts start (with_move n (flip a)) x × NothingCloses l x) (sym (ap (λ r. r.1) c.flip.ensures)) (on, still_closed l m a c.loop-g.invariant.1)
