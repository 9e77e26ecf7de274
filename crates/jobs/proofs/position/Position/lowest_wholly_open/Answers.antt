use Rattle.std.proofs.Common.{sym, rules, tests}
use Rattle.moves.specs.Held.{model}
use Rattle.jobs.specs.Moving.{wholly_open}
use Rattle.jobs.proofs.Choosing.{lowest_found}
use Rattle.jobs.proofs.position.Position.lowest_wholly_open.Goals as goal

pub returns : goal.returns
returns g c =
    let l = g.C.Code.layout c.args.self.now.code.now in
    let s = wholly_open l (model c.args.self.now.job.now) in
    let found = lowest_found s l.generators _ _ _ _ c.find.ensures.ran (sym c.generators.ensures) c.requires (λ x b q k. search (rules, tests)) in
    search (rules, tests)
