use Rattle.jobs.proofs.Verdicts.{stalled_exactly}
use Rattle.jobs.proofs.verdict.verdict.Goals as goal

pub returns-in_err-ask_patterns-clause-stalled : goal.returns-in_err-ask_patterns-clause-stalled
returns-in_err-ask_patterns-clause-stalled g c = stalled_exactly (g.C.Code.layout c.args.code.now) (g.met.C.Code.sound c.args.code.now)

pub returns-clause-stalled : goal.returns-clause-stalled
returns-clause-stalled g c = stalled_exactly (g.C.Code.layout c.args.code.now) (g.met.C.Code.sound c.args.code.now)
