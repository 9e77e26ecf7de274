use Rattle.std.proofs.Common.{◌≡◌, drop}
use Rattle.patterns.specs.Patterns.{toggled_all}
use Rattle.moves.proofs.changes.toggle_all.Given as goal

abbrev pub invariant-loop-k : goal.invariant-loop-k
invariant-loop-k l = toggled_all l.bits (drop l.k-index l.items) ≡ toggled_all l.initial.bits l.items
