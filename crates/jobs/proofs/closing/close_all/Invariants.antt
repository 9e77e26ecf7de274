use Rattle.moves.specs.Held.{model}
use Rattle.jobs.specs.Runs.{enough}
use Rattle.jobs.specs.Closings.{Passed}
use Rattle.jobs.specs.Progress.{none_yet, Came}
use Rattle.jobs.proofs.closing.close_all.Given as goal

abbrev pub invariant-loop-step : goal.invariant-loop-step
invariant-loop-step g l = Came (g.C.Code.layout l.code) none_yet (model l.initial.job) l.counts (model l.job) × Passed (g.C.Code.layout l.code) (model l.job) l.from

abbrev pub decreases-loop-step : goal.decreases-loop-step
decreases-loop-step g l = enough (model l.job)
