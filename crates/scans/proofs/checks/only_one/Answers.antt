use Rattle.std.proofs.Common.{rules, tests, ap, ◌∙◌}
use Rattle.std.specs.Option.{option_map}
use Rattle.std.proofs.lemmas.Iterator.Consumers.{YieldsList-at, YieldsList-from_filter}
use Rattle.patterns.specs.Patterns.{member}
use Rattle.codes.specs.declared.code.Qubit.{Qubit}
use Rattle.codes.proofs.Walks.{walk_checks}
use Rattle.scans.proofs.Scanning.{lone, given_none, given_one, single_met}
use Rattle.scans.proofs.checks.only_one.Goals as goal

pub returns-in_err-first : goal.returns-in_err-first
returns-in_err-first g c =
    let s = member c.args.set.now in
    ap (option_map (λ (v : Qubit). v.0)) c.from_residual.ensures
    ∙ given_none {t = c.next.new.self}
    (YieldsList-from_filter _ s (YieldsList-at c.filter-met.ensures.source (walk_checks g.C.Code.layout c.args.code c.args.u.0 c.of.ensures)) c.filter-met.ensures.closure (λ x b q k. search (rules, tests)))
    c.in_err-first.ensures.steps
    ∙ single_met (g.C.Code.layout c.args.code.now) s c.args.u.0

pub returns : goal.returns
returns g c =
    let s = member c.args.set.now in
    ap (option_map (λ (v : Qubit). v.0)) c.then_some.ensures
    ∙ lone c.next-2.result c.is_none.result c.in_ok-first.first c.is_none.ensures
    ∙ given_one
    (YieldsList-from_filter _ s (YieldsList-at c.filter-met.ensures.source (walk_checks g.C.Code.layout c.args.code c.args.u.0 c.of.ensures)) c.filter-met.ensures.closure (λ x b q k. search (rules, tests)))
    {u = c.next-2.new.self} c.in_ok-first.first c.in_ok-first.ensures.steps c.next-2.result c.next-2.ensures.steps
    ∙ single_met (g.C.Code.layout c.args.code.now) s c.args.u.0
