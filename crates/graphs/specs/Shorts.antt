-- The nodes of a graph have few neighbours. Assumes nothing.
use Rattle.std.specs.Prelude.{ℕ, ◌^◌, ◌<◌, length}
use Rattle.std.proofs.Common.{arith}
use Rattle.graphs.specs.Tanners.{Tanner, Wired}

pub short_check : {t : Tanner} → Wired t → (u : ℕ) → u < t.checks → length (t.of_check u) < 2 ^ 32
short_check w u h = omega (arith, w.paired.row_few u h)

pub short_variable : {t : Tanner} → Wired t → (v : ℕ) → v < t.variables → length (t.of_variable v) < 2 ^ 32
short_variable w v h = omega (arith, w.paired.column_few v h)
