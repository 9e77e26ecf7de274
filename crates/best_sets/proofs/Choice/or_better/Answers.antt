use Rattle.std.proofs.Common.{◌∙◌, ap, cond, rules}
use Rattle.std.proofs.lemmas.List.Sorted.{answers_always}
use Rattle.best_sets.proofs.Steps.{key, key_wins}
use Rattle.best_sets.proofs.Choice.or_better.Goals as goal

pub returns : goal.returns
returns c =
    let a = c.args.self in
    let b = c.args.here in
    c.min_by_key.ensures key (answers_always _ _ _ (λ f x r g k. search rules)) ∙ ap (λ t. cond t b a) (key_wins b a)
