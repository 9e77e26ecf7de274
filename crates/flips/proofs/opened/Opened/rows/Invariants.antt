use Rattle.std.proofs.Common.{◌≡◌, length, take}
use Rattle.flips.specs.Local.{Rows}
use Rattle.flips.proofs.opened.Opened.rows.Given as goal

abbrev pub invariant-loop-v : goal.invariant-loop-v
invariant-loop-v g l = record {
  long : length l.rows.items ≡ l.v-index;
  is : Rows (g.C.Code.layout l.self.code.now) l.checks (take l.v-index l.self.qubits.items) l.rows.items;
}
