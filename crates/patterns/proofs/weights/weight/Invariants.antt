use Rattle.std.proofs.Common.{◌≡◌, ◌+◌, ◌*◌, ◌≤◌, drop}
use Rattle.patterns.specs.Patterns.{weight}
use Rattle.patterns.proofs.weights.weight.Given as goal

abbrev pub invariant-loop-b : goal.invariant-loop-b
invariant-loop-b l = (l.sum + weight (drop l.b-index l.bits) ≡ weight l.bits) × (l.sum ≤ 8 * l.b-index)
