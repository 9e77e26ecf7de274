use Rattle.std.proofs.Common.{◌≡◌, map, length, take}
use Rattle.patterns.specs.Patterns.{member}
use Rattle.flips.specs.Local.{one_if}
use Rattle.flips.proofs.marks.read_parities.Given as goal

abbrev pub invariant-loop-j : goal.invariant-loop-j
invariant-loop-j l = (length l.parities ≡ length l.initial.parities) × (take l.j l.parities ≡ map (λ u. one_if (member l.remaining u)) (take l.j l.checks))
