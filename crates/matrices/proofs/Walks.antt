-- What an iterator over the neighbours of a node gives. Assumes nothing.
use Rattle.std.proofs.Common.{◌≡◌, ℕ, List, drop, ap}
use Rattle.std.specs.Iterator.{YieldsFirst}
use Rattle.std.proofs.lemmas.Iterator.{YieldsList}
use Rattle.std.proofs.lemmas.Iterator.Consumers.{YieldsList-from_first}
use Rattle.matrices.specs.declared.families.Neighbours.{Neighbours}
use Rattle.matrices.specs.Relations.{neighbours}

module _ {F : Type 0} (nodes : F → ℕ) (rows : F → ℕ → List ℕ) where
  -- the neighbours from the next one on
  abbrev pub rest : Neighbours F → List ℕ
  rest s = drop s.next (neighbours (nodes s.family) (rows s.family) s.node)

  -- all neighbours, where none was taken yet
  pub walks : (f : F) (u : ℕ) {s : Neighbours F} → s ≡ record { family = f; node = u; next = 0 } → YieldsList (YieldsFirst rest) (λ x. x) s (neighbours (nodes f) (rows f) u)
  walks f u e = YieldsList-from_first (λ x. x) rest (neighbours (nodes f) (rows f) u) (ap rest e)
