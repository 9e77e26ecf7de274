use Rattle.std.proofs.Common.{None, Some, ◌∙◌, arith}
use Rattle.products.specs.Steps.{light_first}
use Rattle.products.proofs.Telling.{first_moved, first_small}
use Rattle.products.proofs.steps.FirstMovesFamily.neighbour.Goals as goal

pub returns-in_err-v : goal.returns-in_err-v
returns-in_err-v g c =
    let p = c.args.self.now in
    c.from_residual.ensures
    ∙ first_moved (g.S.Family.nodes p.first) (g.T.Family.nodes p.second) c.args.x c.args.k (g.met.T.Side.sided p.second).some (g.S.Family.rows p.first) c.count-width.result None c.count-width.ensures c.in_err-v.ensures

pub overflow_mul-result : goal.overflow_mul-result
overflow_mul-result g c =
    let p = c.args.self.now in
    let t = g.met.T.Side.sided p.second in
    let light = light_first (g.met.S.Side.sided p.first) t in
    omega (arith, first_small (g.S.Family.nodes p.first) (g.T.Family.nodes p.second) c.args.x c.args.k t.some (g.S.Family.rows p.first) light c.count-width.result c.in_ok-v.v c.count-width.ensures c.in_ok-v.ensures)

pub overflow_add-result : goal.overflow_add-result
overflow_add-result g c =
    let p = c.args.self.now in
    let t = g.met.T.Side.sided p.second in
    let light = light_first (g.met.S.Side.sided p.first) t in
    omega (arith, first_small (g.S.Family.nodes p.first) (g.T.Family.nodes p.second) c.args.x c.args.k t.some (g.S.Family.rows p.first) light c.count-width.result c.in_ok-v.v c.count-width.ensures c.in_ok-v.ensures)

pub returns : goal.returns
returns g c =
    let p = c.args.self.now in
    first_moved (g.S.Family.nodes p.first) (g.T.Family.nodes p.second) c.args.x c.args.k (g.met.T.Side.sided p.second).some (g.S.Family.rows p.first) c.count-width.result (Some c.in_ok-v.v) c.count-width.ensures c.in_ok-v.ensures
