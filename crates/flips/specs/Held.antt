-- A flip as it is held: its fall and its qubits. Assumes nothing.
use Rattle.std.specs.Prelude.{ℕ, List, take}
use Rattle.flips.specs.declared.flip.Flip.{Flip}

-- by how much the weight falls, and the qubits that change
abbrev pub told : Flip → ℕ × List ℕ
told f = (f.fall, take f.size f.qubits)
