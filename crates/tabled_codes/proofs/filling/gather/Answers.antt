use Rattle.std.proofs.Common.{length, ap, arith}
use Rattle.std.proofs.lemmas.List.{length-append}
use Rattle.matrices.proofs.Walks.{rest}
use Rattle.tabled_codes.proofs.Writing.{few_neighbours}
use Rattle.tabled_codes.proofs.filling.gather.Goals as goal

pub push-requires : goal.push-requires
push-requires g c =
    let f = c.args.family in
    let left = rest g.F.Family.nodes g.F.Family.rows c.loop-v.v-iterator in
    let few = few_neighbours (g.F.Family.nodes f) (g.F.Family.rows f) c.args.u c.requires in
    omega (arith, ap length c.loop-v.invariant, length-append c.loop-v.row.items left, ap length c.in-Some.ensures.steps, few)
