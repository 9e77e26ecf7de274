use Rattle.std.proofs.Common.{rules, tests, false, not, ◌∙◌}
use mathlib.Core.Bool.{beq}
use Rattle.std.proofs.lemmas.Iterator.Consumers.{fold_from_yields_List}
use Rattle.patterns.specs.Patterns.{member}
use Rattle.matrices.specs.Relations.{neighbours}
use Rattle.codes.proofs.Walks.{walk_checks}
use Rattle.syndromes.proofs.Scanning.{parity_folded}
use Rattle.syndromes.proofs.is_odd.Goals as goal

pub returns : goal.returns
returns g c =
    let l = g.C.Code.layout c.args.code.now in
    let s = member c.args.set.now in
    fold_from_yields_List _ (λ odd v. not (beq odd (s v))) _ _ c.fold.ensures.ran (walk_checks g.C.Code.layout c.args.code c.args.u.0 c.of-held.ensures) (λ a x b q k. search (rules, tests))
    ∙ parity_folded s false (neighbours l.checks l.of_check c.args.u.0)
