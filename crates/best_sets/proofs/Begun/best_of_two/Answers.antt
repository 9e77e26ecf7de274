use Rattle.best_sets.proofs.Steps.{walked_one, chosen_by}
use Rattle.best_sets.proofs.Begun.best_of_two.Goals as goal

pub returns : goal.returns
returns c =
    let s = c.args.self in
    walked_one c.args.row s.left s.size s.picks c.args.best c.choice.result c.choice-2.result c.or_better.result c.or_better-2.result
    (chosen_by c.with.result _ c.choice.result c.with.ensures c.choice.ensures) c.or_better.ensures
    (chosen_by c.without.result _ c.choice-2.result c.without.ensures c.choice-2.ensures) c.or_better-2.ensures
