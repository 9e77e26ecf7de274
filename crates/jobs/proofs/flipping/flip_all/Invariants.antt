use Rattle.moves.specs.Held.{model}
use Rattle.jobs.specs.Runs.{enough}
use Rattle.jobs.specs.Closings.{NothingCloses}
use Rattle.jobs.specs.Progress.{Came}
use Rattle.jobs.proofs.flipping.flip_all.Given as goal

abbrev pub invariant-loop-g : goal.invariant-loop-g
invariant-loop-g g l =
    Came (g.C.Code.layout l.code) l.initial.counts (model l.initial.job) l.counts (model l.job)
    × NothingCloses (g.C.Code.layout l.code) (model l.job)

abbrev pub decreases-loop-g : goal.decreases-loop-g
decreases-loop-g g l = enough (model l.job)
