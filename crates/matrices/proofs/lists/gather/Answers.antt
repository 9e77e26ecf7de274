use Rattle.std.proofs.Common.{rules, tests, ℕ, Ok, ◌∙◌}
use Rattle.std.proofs.lemmas.Iterator.{items_from_collect}
use Rattle.std.proofs.lemmas.Iterator.Consumers.{YieldsList-at, YieldsList-from_filter}
use Rattle.patterns.proofs.Ranges.{numbers_below, filter_members}
use Rattle.matrices.proofs.lists.gather.Goals as goal

pub returns : goal.returns
returns g c =
    let n = c.args.columns in
    let s = g.M.Incidence.joined c.args.m.now c.args.a in
    items_from_collect {E = ℕ} (Ok c.in_ok-list.list) c.in_ok-list.ensures.ran
    (YieldsList-from_filter _ s (YieldsList-at c.filter.ensures.source (numbers_below n (cc))) c.filter.ensures.closure (λ x b q k. search (rules, tests)))
    ∙ filter_members n s
