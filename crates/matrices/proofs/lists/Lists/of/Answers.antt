use Rattle.std.proofs.Common.{[], ◌∷◌, ◌++◌, map, vec_items, sym, refl, ap, ◌∙◌, ap₂, arith}
use Rattle.std.proofs.lemmas.List.FromFn.{map-range_with_len_more}
use Rattle.std.proofs.lemmas.List.{map_push}
use Rattle.std.proofs.lemmas.Slice.{pushed}
use Rattle.patterns.specs.Sets.{members}
use Rattle.matrices.proofs.lists.Lists.of.Goals as goal

pub loop-a-preserved : goal.loop-a-preserved
loop-a-preserved g c =
    let s = g.M.Incidence.joined c.args.m.now in
    let nodes = vec_items c.loop-a.nodes in
    let list = c.in_ok-gather.field-0 in
    ap (map vec_items) (pushed (list ∷ []) refl c.in_ok-push.was c.push.ensures.items)
    ∙ map_push vec_items nodes list
    ∙ ap₂ (λ xs x. xs ++ x ∷ []) c.loop-a.invariant c.in_ok-gather.ensures
    ∙ sym (map-range_with_len_more (λ u. members c.args.columns (s u)) 0 c.loop-a.a c.loop-a.a (omega arith))
