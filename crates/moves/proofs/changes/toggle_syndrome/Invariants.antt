use Rattle.std.proofs.Common.{◌≡◌, length, drop}
use Rattle.patterns.specs.Patterns.{added}
use Rattle.flips.proofs.Near.{toggles}
use Rattle.moves.proofs.changes.toggle_syndrome.Given as goal

abbrev pub invariant-loop-v : goal.invariant-loop-v
invariant-loop-v g l =
    let c = g.C.Code.layout l.code in
    (length l.remaining ≡ length l.initial.remaining) × (added c.checks l.remaining (toggles c (drop l.v-index l.qubits)) ≡ added c.checks l.initial.remaining (toggles c l.qubits))
