use Rattle.std.proofs.Common.{◌≡◌, ◌+◌, ◌≤◌, length, take, drop}
use Rattle.matrices.specs.Relations.{neighbours}
use Rattle.flips.specs.Local.{gathered}
use Rattle.flips.proofs.gathering.gather.Given as goal

abbrev pub invariant-loop-u : goal.invariant-loop-u
invariant-loop-u g l =
    let it = l.u-iterator in
    let c = g.C.Code.layout it.family.code.now in
    let rest = drop it.next (neighbours c.qubits c.checks_of it.node) in
    record {
      long : length l.checks ≡ 144;
      few : l.n + length rest ≤ l.fn.count + 12;
      is : gathered (take l.n l.checks) rest ≡ gathered (take l.fn.count l.fn.checks) ((g.C.Code.layout l.fn.code).checks_of l.fn.v.0);
    }
