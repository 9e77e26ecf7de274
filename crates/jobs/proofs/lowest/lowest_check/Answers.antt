use Rattle.std.proofs.Common.{min, ltb, [], ap, ◌∙◌, rules, tests}
use Rattle.std.specs.List.{fold}
use Rattle.std.proofs.lemmas.Bool.{cond-true, lt-ltb}
use Rattle.std.proofs.lemmas.Iterator.Consumers.{fold_from_yields_List}
use Rattle.codes.proofs.Walks.{walk_by_check}
use Rattle.jobs.proofs.Choosing.{least_folded}
use Rattle.jobs.proofs.lowest.lowest_check.Goals as goal

pub returns : goal.returns
returns g c =
    let l = g.C.Code.layout c.args.code.now in
    let row = l.checks_of c.args.v.0 in
    fold_from_yields_List _ min _ _ c.fold.ensures.ran (walk_by_check g.C.Code.layout c.args.code c.args.v.0 c.of.ensures) (λ a x b q k. search (rules, tests))
    ∙ ap (fold min c.args.from) (cond-true (ltb c.args.v.0 l.qubits) row [] (lt-ltb c.args.v.0 l.qubits c.requires))
    ∙ least_folded c.args.from row
