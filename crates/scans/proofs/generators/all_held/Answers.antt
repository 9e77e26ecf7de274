use Rattle.std.proofs.Common.{rules, tests, ◌∙◌, arith}
use Rattle.std.proofs.lemmas.Iterator.Search.{all_from_yields_List}
use Rattle.patterns.specs.Patterns.{member}
use Rattle.codes.proofs.Walks.{walk_generators}
use Rattle.scans.proofs.Scanning.{all_met}
use Rattle.scans.proofs.generators.all_held.Goals as goal

pub returns-then-g-generators : goal.returns-then-g-generators
returns-then-g-generators g c =
    let s = member c.args.set.now in
    all_from_yields_List s c.all.new.self _ c.all.result c.all.ensures.ran (walk_generators g.C.Code.layout c.args.code c.args.g.0 c.of.ensures) (λ x b q k. search (rules, tests))
    ∙ all_met (g.C.Code.layout c.args.code.now) s c.args.g.0 (omega arith)
