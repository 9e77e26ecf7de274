use Rattle.std.proofs.Common.{rules, tests, true, not, filter, ap, ◌∙◌}
use Rattle.std.specs.List.{range_with_len}
use Rattle.std.proofs.lemmas.Iterator.{YieldsList-from_map}
use Rattle.std.proofs.lemmas.Iterator.Consumers.{YieldsList-at, YieldsList-from_filter, fold_from_yields_List}
use Rattle.patterns.specs.Sets.{◌⊕◌, parity}
use Rattle.patterns.proofs.Ranges.{numbers_below, filter_members}
use Rattle.matrices.specs.Rows.{entry}
use Rattle.written_codes.proofs.Overlaps.{even_turned}
use Rattle.written_codes.proofs.making.Sides.shares_even.Goals as goal

pub returns : goal.returns
returns c =
    let sides = c.args.self.now in
    let n = sides.checks.columns in
    let t = entry n sides.checks.bytes.now c.args.u in
    let s = entry n sides.generators.bytes.now c.args.g in
    fold_from_yields_List _ ◌⊕◌ true c.fold.result c.fold.ensures.ran
    (YieldsList-from_map _ s
    (YieldsList-at c.map.ensures.source
    (YieldsList-from_filter _ t (YieldsList-at c.filter.ensures.source (numbers_below n (cc))) c.filter.ensures.closure (λ x b q k. search (rules, tests))))
    c.map.ensures.closure (λ x b q k. search (rules, tests)))
    (λ a x b q k. search (rules, tests))
    ∙ even_turned s (filter t (range_with_len 0 n))
    ∙ ap (λ xs. not (parity s xs)) (filter_members n t)
