use Rattle.std.proofs.Common.{◌≡◌, drop}
use Rattle.graphs.specs.Cycles.{rising_from, rising}
use Rattle.graphs.proofs.cyclic.rises.Given as goal

abbrev pub invariant-loop-s : goal.invariant-loop-s
invariant-loop-s l = rising_from l.low l.count (drop l.s-index l.shifts) ≡ rising l.count l.shifts
