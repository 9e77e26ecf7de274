use Rattle.std.proofs.Common.{◌+◌, ◌-◌, ◌%◌, vec_items, ap, ◌∙◌, arith}
use Rattle.std.specs.Option.{option_map}
use Rattle.graphs.specs.declared.graph.CheckNode.{CheckNode}
use Rattle.graphs.specs.Shifts.{neighbour_mapped, neighbour_none}
use Rattle.graphs.proofs.cyclic.CyclicGraph.variable_neighbour.Goals as goal

pub returns-in_err-shift : goal.returns-in_err-shift
returns-in_err-shift c =
    let g = c.args.self.now in
    ap (option_map (λ (p : CheckNode). p.0)) c.from_residual.ensures
    ∙ neighbour_none g.count (λ v s. (v + (g.count - s)) % g.count) (vec_items g.shifts) c.args.v.0 (omega arith) c.args.k c.in_err-shift.ensures.value

pub returns : goal.returns
returns c =
    let g = c.args.self.now in
    neighbour_mapped g.count (λ v s. (v + (g.count - s)) % g.count) (vec_items g.shifts) c.args.v.0 (omega arith) c.args.k c.in_ok-shift.shift c.in_ok-shift.ensures.value
