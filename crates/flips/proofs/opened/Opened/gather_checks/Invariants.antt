use Rattle.std.proofs.Common.{◌≡◌, ◌*◌, ◌≤◌, [], length, take, drop}
use Rattle.flips.specs.Local.{local_checks}
use Rattle.flips.proofs.opened.Opened.gather_checks.Given as goal

abbrev pub invariant-loop-v : goal.invariant-loop-v
invariant-loop-v g l =
    let c = g.C.Code.layout l.self.code.now in
    let qubits = l.self.qubits.items in
    record {
      long : length l.checks ≡ 144;
      few : l.count ≤ 12 * l.v-index;
      is : local_checks c (take l.count l.checks) (drop l.v-index qubits) ≡ local_checks c [] qubits;
    }
