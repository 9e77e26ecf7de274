-- The numbers of the sides. Assumes nothing.
use Rattle.std.specs.Prelude.{◌≡◌, ℕ, zero, suc, Some, None, Option, Result, MatchResult}
use Rattle.refusals.specs.declared.Refusal.{Refusal}
use Rattle.refusals.specs.declared.Refusal.TheVariants.{UnknownSide}
use Rattle.job_files.specs.declared.parts.Side.{Side}
use Rattle.job_files.specs.declared.parts.Side.TheVariants.{Product, ExchangedProduct}

-- the side of each number
abbrev pub side_of : ℕ → Option Side
side_of zero = Some Product
side_of (suc zero) = Some ExchangedProduct
side_of (suc (suc b)) = None

-- the side of the number, or the refusal of a number that no side has
abbrev pub SideRead : ℕ → Result Side Refusal → Type 0
SideRead number r = MatchResult r (λ s. side_of number ≡ Some s) (λ e. (side_of number ≡ None) × (e ≡ UnknownSide))
