use Rattle.std.proofs.Common.{arith}
use Rattle.products.specs.Steps.{light_second}
use Rattle.products.proofs.Telling.{second_moved, second_small}
use Rattle.products.proofs.steps.SecondMovesFamily.neighbour.Goals as goal

pub overflow_add-result : goal.overflow_add-result
overflow_add-result g c =
    let p = c.args.self.now in
    let t = g.met.T.Side.sided p.second in
    let light = light_second (g.met.S.Side.sided p.first) t in
    omega (arith, second_small (g.S.Family.nodes p.first) (g.T.Side.across p.second) (g.T.Family.nodes p.second) c.args.x c.args.k t.some (g.T.Family.rows p.second) light c.count-width.result c.across.result c.in_ok-v.v c.count-width.ensures c.across.ensures (omega (arith, c.count.ensures)) c.in_ok-v.ensures)

pub returns : goal.returns
returns g c =
    let p = c.args.self.now in
    second_moved (g.S.Family.nodes p.first) (g.T.Side.across p.second) (g.T.Family.nodes p.second) c.args.x c.args.k (g.met.T.Side.sided p.second).some (g.T.Family.rows p.second) c.count-width.result c.across.result c.in_ok-v.v c.count-width.ensures c.across.ensures (omega (arith, c.count.ensures)) c.in_ok-v.ensures
