use Rattle.std.proofs.Common.{min, ltb, [], sym, ap, ◌∙◌}
use Rattle.std.specs.List.{reduce}
use Rattle.std.specs.Option.{unwrap_or}
use Rattle.std.proofs.lemmas.Bool.{cond-true, lt-ltb}
use Rattle.std.proofs.lemmas.Iterator.Adapters.{option_map_id}
use Rattle.std.proofs.lemmas.Iterator.Consumers.{min_from_yields_List}
use Rattle.codes.proofs.Walks.{walk_generators}
use Rattle.jobs.proofs.Choosing.{least_reduced}
use Rattle.jobs.proofs.lowest.lowest_qubit.Goals as goal

pub returns : goal.returns
returns g c =
    let l = g.C.Code.layout c.args.code.now in
    let row = l.of_generator c.args.g.0 in
    let low = sym (option_map_id c.min.result) ∙ min_from_yields_List _ c.min.result c.min.ensures.ran (walk_generators g.C.Code.layout c.args.code c.args.g.0 c.of.ensures) in
    c.unwrap_or.ensures
    ∙ ap (λ o. unwrap_or o 0) (low ∙ ap (reduce min) (cond-true (ltb c.args.g.0 l.generators) row [] (lt-ltb c.args.g.0 l.generators c.requires)))
    ∙ least_reduced row
