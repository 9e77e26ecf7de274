-- The lowest of the numbers that are in a set. Assumes nothing.
use Rattle.std.specs.Prelude.{ℕ, zero, suc, min, Bool, cond, List, [], ◌∷◌, is_some, Some, None, Option}
use Rattle.patterns.specs.Sets.{Set}

-- the first, or else the second
abbrev pub or_else : {X : Type 0} → Option X → Option X → Option X
or_else (Some x) o = Some x
or_else None o = o

-- the first, or else n if it is in the set
abbrev pub or_at : Option ℕ → Set → ℕ → Option ℕ
or_at (Some k) s n = Some k
or_at None s n = cond (s n) (Some n) None

-- the lowest number below n that is in the set
abbrev pub lowest : ℕ → Set → Option ℕ
lowest zero s = None
lowest (suc n) s = or_at (lowest n s) s n

-- whether some number below n is in the set
abbrev pub some_below : ℕ → Set → Bool
some_below n s = is_some (lowest n s)

-- the least number of a list, and 0 of an empty one
abbrev pub least : List ℕ → ℕ
least [] = 0
least (x ∷ []) = x
least (x ∷ y ∷ ys) = min x (least (y ∷ ys))
