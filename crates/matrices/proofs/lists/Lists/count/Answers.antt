use Rattle.std.proofs.Common.{vec_items, sym, ◌∙◌}
use Rattle.std.proofs.lemmas.List.{length-map}
use Rattle.matrices.proofs.lists.Lists.count.Goals as goal

pub returns : goal.returns
returns c =
    let nodes = c.args.self.now.nodes in
    c.len.ensures ∙ nodes.ok.0 ∙ sym (length-map (vec_items nodes) vec_items)
