use Rattle.std.proofs.Common.{rules, tests, ◌∙◌}
use Rattle.std.proofs.lemmas.Iterator.Search.{all_from_yields_List}
use Rattle.patterns.specs.Sets.{all_below}
use Rattle.patterns.proofs.Ranges.{numbers_below, list_all_below}
use Rattle.written_codes.specs.Writing.{shares_even}
use Rattle.written_codes.proofs.making.Sides.all_share_even.Goals as goal

pub returns : goal.returns
returns c =
    let sides = c.args.self.now in
    let m = sides.checks.rows in
    let even = λ (u : _). all_below sides.generators.rows (shares_even sides.checks.columns sides.checks.bytes.now sides.generators.bytes.now u) in
    all_from_yields_List even _ _ c.all.result c.all.ensures.ran (numbers_below m (cc)) (λ x b q k. search (rules, tests))
    ∙ list_all_below m even
