use Rattle.std.proofs.Common.{◌≡◌, ◌+◌, get_or, drop, arith}
use Rattle.std.proofs.lemmas.Nat.{ones-le}
use Rattle.std.proofs.lemmas.List.{at_drop_more, at_drop_all}
use Rattle.patterns.specs.Patterns.{weight, byte_weight}
use Rattle.patterns.proofs.Weighed.{byte_weight_is}
use Rattle.patterns.proofs.weights.weight.Goals as goal

pub overflow_add-sum : goal.overflow_add-sum
overflow_add-sum c = omega (arith, ones-le 8 (get_or c.args.bits.now c.loop-b.b-index 0) (omega (arith, c.type_inv.bits c.loop-b.b-index)))

pub loop-b-preserved : goal.loop-b-preserved
loop-b-preserved c =
    let bs = c.args.bits.now in
    let i = c.loop-b.b-index in
    let byte = c.type_inv.bits i in
    let step : weight (drop i bs) ≡ byte_weight (get_or bs i 0) + weight (drop (i + 1) bs) = at_drop_more weight bs i 0 (omega arith) in
    (omega (arith, step, byte_weight_is (get_or bs i 0) (omega arith)), omega (arith, ones-le 8 (get_or bs i 0) (omega arith)))

pub returns : goal.returns
returns c = omega (arith, at_drop_all weight c.args.bits.now c.loop-b.b-index (omega arith))
