use Rattle.std.proofs.Common.{◌≡◌, ◌*◌, ◌++◌, take, drop}
use Rattle.patterns.specs.Hex.{hexed}
use Rattle.patterns.proofs.hex.write_hex.Given as goal

abbrev pub invariant-loop-i : goal.invariant-loop-i
invariant-loop-i l =
    (take (2 * l.i) l.out ++ hexed (drop l.i l.bytes) ≡ hexed l.bytes)
    × (drop (2 * l.i) l.out ≡ drop (2 * l.i) l.initial.out)
