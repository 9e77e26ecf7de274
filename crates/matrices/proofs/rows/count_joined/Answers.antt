use Rattle.std.proofs.Common.{rules, tests, ◌≡◌, length, filter, ◌∙◌, arith}
use Rattle.std.specs.List.{range_with_len}
use Rattle.std.proofs.lemmas.Iterator.Consumers.{YieldsList-at, YieldsList-from_filter, count_from_yields_List}
use Rattle.std.proofs.lemmas.List.FromFn.{length-range_with_len}
use Rattle.std.proofs.lemmas.List.Sums.{length-filter, count_by-le-length}
use Rattle.patterns.proofs.Ranges.{numbers_below, length_tally}
use Rattle.matrices.proofs.rows.count_joined.Goals as goal
use Rattle.matrices.proofs.rows.count_joined.Goals.{After-count}

counted : (g : _) (c : After-count g) → c.count.result ≡ length (filter (g.M.Incidence.joined c.args.m.now c.args.a) (range_with_len 0 c.args.columns))
counted g c =
    let s = g.M.Incidence.joined c.args.m.now c.args.a in
    count_from_yields_List c.filter.result c.count.result c.count.ensures.ran
    (YieldsList-from_filter _ s (YieldsList-at c.filter.ensures.source (numbers_below c.args.columns (cc))) c.filter.ensures.closure (λ x b q k. search (rules, tests)))

-- no more pass than there are numbers below `columns`
pub overflow_cast-result : goal.overflow_cast-result
overflow_cast-result g c =
    let n = c.args.columns in
    let s = g.M.Incidence.joined c.args.m.now c.args.a in
    let all = range_with_len 0 n in
    omega (arith, counted g (goal.at.overflow_cast-result g c).After-count, length-filter s all, count_by-le-length s all, length-range_with_len 0 n)

pub returns : goal.returns
returns g c = counted g (goal.at.returns g c).After-count ∙ length_tally c.args.columns (g.M.Incidence.joined c.args.m.now c.args.a)
