use Rattle.std.proofs.Common.{sym}
use Rattle.moves.specs.Held.{model}
use Rattle.jobs.specs.Moving.{wholly_open}
use Rattle.jobs.proofs.Picks.{lowest_some}
use Rattle.jobs.proofs.position.Position.next_closing.Goals as goal

pub lowest_qubit-requires : goal.lowest_qubit-requires
lowest_qubit-requires g c =
    let l = g.C.Code.layout c.args.self.now.code.now in
    (lowest_some l.generators (wholly_open l (model c.args.self.now.job.now)) c.in_ok-g.g.0 (sym c.in_ok-g.ensures)).0
