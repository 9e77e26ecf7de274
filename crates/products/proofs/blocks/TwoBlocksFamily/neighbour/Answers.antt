use Rattle.std.proofs.Common.{◌-◌, arith}
use Rattle.products.proofs.Telling.{small_told, right_told}
use Rattle.products.proofs.blocks.TwoBlocksFamily.neighbour.Goals as goal

pub overflow_add-result : goal.overflow_add-result
overflow_add-result g c =
    let x = c.args.self.now in
    let k = c.args.k - c.in_ok-size.size in
    omega (arith, x.few, small_told (g.Two.Family.nodes x.two) (g.Two.Family.rows x.two) c.args.u k (g.met.Two.Block.light x.two) c.in_ok-v.v c.in_ok-v.ensures)

pub returns : goal.returns
returns g c =
    let x = c.args.self.now in
    right_told (g.One.Family.nodes x.one) (g.Two.Family.nodes x.two) x.start (g.One.Family.rows x.one) (g.Two.Family.rows x.two) c.args.u c.args.k c.in_ok-size.size c.in_ok-v.v x.same c.in_ok-size.ensures (omega arith) c.in_ok-v.ensures
