use Rattle.std.proofs.Common.{sym, rules, tests}
use Rattle.moves.specs.Held.{model}
use Rattle.jobs.specs.Moving.{dangling}
use Rattle.jobs.proofs.Choosing.{lowest_mapped}
use Rattle.jobs.proofs.position.Position.lowest_dangling.Goals as goal

pub returns-clause-value : goal.returns-clause-value
returns-clause-value g c =
    let l = g.C.Code.layout c.args.self.now.code.now in
    let s = dangling l (model c.args.self.now.job.now) in
    lowest_mapped s (λ p. p.0.0) l.checks _ _ _ c.find_map.ensures.runs (sym c.checks.ensures) c.requires (λ x o q k. search (rules, tests))
