use Rattle.std.proofs.Common.{◌+◌, ◌%◌, cond, ltb, Some, None, vec_items, sym, ap, ◌∙◌}
use Rattle.std.proofs.lemmas.List.{length-map}
use Rattle.graphs.proofs.cyclic.CyclicGraph.check_degree.Goals as goal

pub returns : goal.returns
returns c =
    let g = c.args.self.now in
    let p = c.args.p.0 in
    c.degree.ensures ∙ ap (λ k. cond (ltb p g.count) (Some k) None) (sym (length-map (vec_items g.shifts) (λ s. (p + s) % g.count)))
