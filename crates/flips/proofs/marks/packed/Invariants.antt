use Rattle.std.proofs.Common.{eqb, take}
use Rattle.flips.specs.Local.{Marks}
use Rattle.flips.proofs.marks.packed.Given as goal

abbrev pub invariant-loop-j : goal.invariant-loop-j
invariant-loop-j l = Marks (take l.j l.parities) (eqb 1) l.words
