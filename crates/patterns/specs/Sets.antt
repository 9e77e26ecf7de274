-- Sets of numbers: sums, the parity of a set over a list, a list as a set, and a set as a list. Assumes nothing.
use Rattle.std.specs.Prelude.{◌≡◌, ℕ, zero, suc, ◌+◌, Bool, true, false, cond, ◌&&◌, ◌||◌, List, [], ◌∷◌, ◌++◌, ◌==◌}

-- a set, by its test
abbrev pub Set : Type 0
Set = ℕ → Bool

-- addition of two values: one of the two, and not both
infixl 32 ◌⊕◌
abbrev pub ◌⊕◌ : Bool → Bool → Bool
true ⊕ true = false
true ⊕ false = true
false ⊕ b = b

-- the sum of sets: the items that are in an odd number of them
abbrev pub sum_of : List Set → Set
sum_of [] k = false
sum_of (s ∷ ss) k = s k ⊕ sum_of ss k

-- a set is inside another that has all its items
abbrev pub Inside : Set → Set → Type 0
Inside s t = (k : ℕ) → s k ≡ true → t k ≡ true

-- how many of the items below n are in the set
abbrev pub tally : ℕ → Set → ℕ
tally zero s = 0
tally (suc n) s = cond (s n) 1 0 + tally n s

-- whether the test holds of every number below n
abbrev pub all_below : ℕ → Set → Bool
all_below zero s = true
all_below (suc n) s = all_below n s && s n

-- the items below n that are in the set, in rising order
abbrev pub members : ℕ → Set → List ℕ
members zero s = []
members (suc n) s = members n s ++ cond (s n) (n ∷ []) []

-- the set of the numbers that stand in a list
abbrev pub has : List ℕ → Set
has [] k = false
has (x ∷ xs) k = x == k || has xs k

-- whether an odd number of the list's places hold an item of the set
abbrev pub parity : Set → List ℕ → Bool
parity s [] = false
parity s (x ∷ xs) = s x ⊕ parity s xs

-- no number stands twice in the list
abbrev pub Apart : List ℕ → Type 0
Apart [] = Unit {0}
Apart (x ∷ xs) = (has xs x ≡ false) × Apart xs
