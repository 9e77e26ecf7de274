-- A list rises in one way at most. Assumes nothing.
use Rattle.std.proofs.Common.{ℕ, List, [], ◌∷◌}
use Rattle.std.proofs.Props.{props}
use mathlib.Core.HLevel.{×_prop, Unit-prop}
use Rattle.best_sets.specs.Rising.{Rising}

-- so it may stand in a ghost field
pub Rising-prop : (xs : List ℕ) → IsProp (Rising xs)
Rising-prop [] = Unit-prop
Rising-prop (x ∷ xs) = ×_prop (hlevel props) (Rising-prop xs)
