use Rattle.std.proofs.Common.{sym, refl, rules, tests}
use Rattle.moves.specs.Held.{model}
use Rattle.jobs.specs.Moving.{lowerable}
use Rattle.jobs.proofs.Choosing.{lowest_found}
use Rattle.jobs.proofs.position.Position.lowest_lowerable.Goals as goal

pub returns : goal.returns
returns g c =
    let l = g.C.Code.layout c.args.self.now.code.now in
    let s = lowerable l (model c.args.self.now.job.now) in
    let found = lowest_found s l.generators _ _ _ _ c.find.ensures.ran (sym c.generators.ensures) refl (λ x b q k. search (rules, tests)) in
    search (rules, tests)
