use Rattle.std.proofs.Common.{rules, tests, eqb, ◌∙◌}
use Rattle.std.proofs.lemmas.Iterator.Search.{any_from_yields_List}
use Rattle.codes.proofs.Walks.{walk_generators}
use Rattle.scans.proofs.Scanning.{any_held}
use Rattle.scans.proofs.generators.holds.Goals as goal

pub returns : goal.returns
returns g c =
    let v = c.args.v.0 in
    any_from_yields_List (λ w. eqb w v) c.any.new.self _ c.any.result c.any.ensures.ran (walk_generators g.C.Code.layout c.args.code c.args.g.0 c.of.ensures) (λ x b q k. search (rules, tests))
    ∙ any_held (g.C.Code.layout c.args.code.now) c.args.g.0 v
