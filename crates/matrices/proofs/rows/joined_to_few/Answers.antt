use Rattle.std.proofs.Common.{rules, tests, leb, ◌∙◌}
use Rattle.std.proofs.lemmas.Iterator.Search.{all_from_yields_List}
use Rattle.patterns.specs.Sets.{tally}
use Rattle.patterns.proofs.Ranges.{numbers_below, list_all_below}
use Rattle.matrices.proofs.rows.joined_to_few.Goals as goal

pub returns : goal.returns
returns g c =
    let m = c.args.rows in
    let few = λ (u : _). leb (tally c.args.columns (g.M.Incidence.joined c.args.m.now u)) c.args.most in
    all_from_yields_List few _ _ c.all.result c.all.ensures.ran (numbers_below m (cc)) (λ x b q k. search (rules, tests))
    ∙ list_all_below m few
