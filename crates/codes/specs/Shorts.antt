-- A node of a code has few neighbours. Assumes nothing.
use Rattle.std.specs.Prelude.{ℕ, ◌^◌, ◌<◌, length}
use Rattle.std.proofs.Common.{arith}
use Rattle.codes.specs.Layouts.{Layout, Sound}

pub short_check : {c : Layout} → Sound c → (u : ℕ) → u < c.checks → length (c.of_check u) < 2 ^ 32
short_check s u h = omega (arith, s.by_check.row_few u h)

pub short_generator : {c : Layout} → Sound c → (g : ℕ) → g < c.generators → length (c.of_generator g) < 2 ^ 32
short_generator s g h = omega (arith, s.by_generator.row_few g h)

pub short_by_check : {c : Layout} → Sound c → (v : ℕ) → v < c.qubits → length (c.checks_of v) < 2 ^ 32
short_by_check s v h = omega (arith, s.by_check.column_few v h)

pub short_by_generator : {c : Layout} → Sound c → (v : ℕ) → v < c.qubits → length (c.generators_of v) < 2 ^ 32
short_by_generator s v h = omega (arith, s.by_generator.column_few v h)
