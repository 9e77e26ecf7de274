use Rattle.std.proofs.Common.{◌≡◌, ◌+◌, ◌≤◌, ◌++◌, length, drop, filter}
use Rattle.patterns.specs.Patterns.{member}
use Rattle.matrices.specs.Relations.{neighbours}
use Rattle.flips.proofs.opening.open_qubits.Given as goal

abbrev pub invariant-loop-v : goal.invariant-loop-v
invariant-loop-v g l =
    let it = l.v-iterator in
    let c = g.C.Code.layout it.family.code.now in
    let rest = drop it.next (neighbours c.generators c.of_generator it.node) in
    let row = (g.C.Code.layout l.fn.code).of_generator l.fn.g.0 in
    record {
      few : length l.qubits.items + length rest ≤ 12;
      is : l.qubits.items ++ filter (member l.opened) rest ≡ filter (member l.opened) row;
    }
