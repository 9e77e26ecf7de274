use Rattle.std.proofs.Common.{rules, tests, ◌∙◌}
use Rattle.std.proofs.lemmas.Iterator.Search.{all_from_yields_List}
use Rattle.patterns.proofs.Ranges.{numbers_below, list_all_below}
use Rattle.written_codes.specs.Writing.{shares_even}
use Rattle.written_codes.proofs.making.Sides.shares_even_with_all.Goals as goal

pub returns : goal.returns
returns c =
    let sides = c.args.self.now in
    let k = sides.generators.rows in
    let even = shares_even sides.checks.columns sides.checks.bytes.now sides.generators.bytes.now c.args.u in
    all_from_yields_List even _ _ c.all.result c.all.ensures.ran (numbers_below k (cc)) (λ x b q k. search (rules, tests))
    ∙ list_all_below k even
