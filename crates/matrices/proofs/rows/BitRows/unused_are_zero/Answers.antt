use Rattle.std.proofs.Common.{rules, tests, ◌∙◌}
use Rattle.std.proofs.lemmas.Iterator.Search.{all_from_yields_List}
use Rattle.patterns.specs.Patterns.{tidy}
use Rattle.patterns.proofs.Ranges.{numbers_below, list_all_below}
use Rattle.matrices.specs.Rows.{row}
use Rattle.matrices.proofs.rows.BitRows.unused_are_zero.Goals as goal

pub returns : goal.returns
returns c =
    let m = c.args.self.now.rows in
    let tidy_row = λ (u : _). tidy c.args.self.now.columns (row c.args.self.now.columns c.args.self.now.bytes.now u) in
    all_from_yields_List tidy_row _ _ c.all.result c.all.ensures.ran (numbers_below m (cc)) (λ x b q k. search (rules, tests))
    ∙ list_all_below m tidy_row
