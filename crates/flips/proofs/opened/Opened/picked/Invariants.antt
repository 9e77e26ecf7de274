use Rattle.std.proofs.Common.{◌≡◌, ◌≤◌, ◌++◌, length, take, drop}
use Rattle.flips.specs.Local.{picked}
use Rattle.flips.proofs.opened.Opened.picked.Given as goal

abbrev pub invariant-loop-i : goal.invariant-loop-i
invariant-loop-i g l =
    let qubits = l.self.qubits.items in
    record {
      long : length l.chosen ≡ 12;
      few : l.size ≤ l.i;
      is : take l.size l.chosen ++ picked l.best.picks (drop l.i qubits) ≡ picked l.best.picks qubits;
    }
