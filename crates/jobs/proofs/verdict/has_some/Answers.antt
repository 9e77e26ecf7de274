use Rattle.std.proofs.Common.{refl, rules, tests}
use Rattle.patterns.specs.Patterns.{member}
use Rattle.jobs.proofs.Choosing.{some_found}
use Rattle.jobs.proofs.verdict.has_some.Goals as goal

pub returns : goal.returns
returns c = some_found (member c.args.bits.now) c.args.count _ _ _ _ c.any.ensures.ran refl refl (λ x b q k. search (rules, tests))
