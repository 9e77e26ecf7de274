use Rattle.std.proofs.Common.{sym, refl, rules, tests}
use Rattle.moves.specs.Held.{model}
use Rattle.jobs.specs.Verdicts.{unmet}
use Rattle.jobs.proofs.Choosing.{some_found}
use Rattle.jobs.proofs.position.Position.is_contradicted.Goals as goal

pub returns : goal.returns
returns g c =
    let l = g.C.Code.layout c.args.self.now.code.now in
    some_found (unmet l (model c.args.self.now.job.now)) l.checks _ _ _ _ c.any.ensures.ran refl (sym c.checks.ensures) (λ x b q k. search (rules, tests))
