use Rattle.std.proofs.Common.{rules, tests, ◌∙◌}
use Rattle.std.proofs.lemmas.Iterator.Search.{any_from_yields_List}
use Rattle.patterns.specs.Patterns.{member}
use Rattle.codes.proofs.Walks.{walk_checks}
use Rattle.scans.proofs.Scanning.{any_meets}
use Rattle.scans.proofs.checks.meets.Goals as goal

pub returns : goal.returns
returns g c =
    let s = member c.args.set.now in
    any_from_yields_List s c.any.new.self _ c.any.result c.any.ensures.ran (walk_checks g.C.Code.layout c.args.code c.args.u.0 c.of.ensures) (λ x b q k. search (rules, tests))
    ∙ any_meets (g.C.Code.layout c.args.code.now) s c.args.u.0
