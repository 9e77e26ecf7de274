-- The best of the sets of some numbers. Assumes nothing.
use Rattle.std.specs.Prelude.{◌≡◌, ℕ, ◌<◌, ◌≤◌, Bool, true, false, cond, ◌&&◌, ◌||◌, List, [], ◌∷◌, ◌++◌, map, length, Some, None, filter, Option, ◌==◌, nat_lt}
use Rattle.std.specs.List.{best_of}
use Rattle.patterns.specs.Sets.{Set, Apart}

-- the sets of the numbers of a list, each in the list's order
abbrev pub sets : List ℕ → List (List ℕ)
sets [] = [] ∷ []
sets (x ∷ xs) = map (λ s. x ∷ s) (sets xs) ++ sets xs

-- the smaller first number where two lists differ; a list that has ended counts as greater
abbrev pub sooner : List ℕ → List ℕ → Bool
sooner [] ys = false
sooner (x ∷ xs) [] = true
sooner (x ∷ xs) (y ∷ ys) = nat_lt x y || (x == y && sooner xs ys)

-- What *better* compares, of sets as rising lists, where w tells the weight that a set leaves:
-- less is left; of equals there are fewer numbers; of equals again the first number where they differ is smaller.
abbrev pub beats : (List ℕ → ℕ) → List ℕ → List ℕ → Bool
beats w s t = nat_lt (w s) (w t) || (w s == w t && (nat_lt (length s) (length t) || (length s == length t && sooner s t)))

-- the best of all sets; the empty one is among them, and leaves the weight as it is
unfoldable pub best_set : (List ℕ → ℕ) → List ℕ → List ℕ
best_set w xs = best_of (beats w) [] (sets xs)

-- the best of the sets, if it lowers the weight
unfoldable pub lowering : (List ℕ → ℕ) → List ℕ → Option (List ℕ)
lowering w xs = cond (nat_lt (w (best_set w xs)) (w [])) (Some (best_set w xs)) None

-- What is asked of a choice among the sets of the numbers xs, each set taken as its members in the order of xs.
-- If there is one, it is one of the sets, it lowers the weight, and no set beats it; if there is none, no set lowers the weight.
abbrev pub Chosen : (List ℕ → ℕ) → List ℕ → Option (List ℕ) → Type 0
Chosen w xs (Some f) = ((s : Set) × (f ≡ filter s xs)) × (w f < w []) × ((s : Set) → beats w (filter s xs) f ≡ false)
Chosen w xs None = (s : Set) → w [] ≤ w (filter s xs)

-- the law of the best set, over every list without repeats and every way to weigh
abbrev pub BestIsUnbeaten : Type 0
BestIsUnbeaten = (w : List ℕ → ℕ) (xs : List ℕ) → Apart xs → Chosen w xs (lowering w xs)
