-- The checks near some qubits, and sets of them as bits of three words. Assumes nothing.
use Rattle.std.specs.Prelude.{◌≡◌, ℕ, zero, suc, ◌-◌, ◌/◌, ◌%◌, ◌^◌, ◌<◌, Bool, false, cond, List, [], ◌∷◌, ◌++◌, length, bit_xor, slice_index, slice_set}
use Rattle.std.specs.List.{All}
use Rattle.patterns.specs.Sets.{Set, has}
use Rattle.patterns.specs.Patterns.{bit}
use Rattle.best_sets.specs.Best.{best_set}
use Rattle.codes.specs.Layouts.{Layout}

-- u put at the end of the list, if it is not there yet
abbrev pub with_new : List ℕ → ℕ → List ℕ
with_new ds u = cond (has ds u) ds (ds ++ u ∷ [])

-- each of us put at the end of ds that is not there yet
abbrev pub gathered : List ℕ → List ℕ → List ℕ
gathered ds [] = ds
gathered ds (u ∷ us) = gathered (with_new ds u) us

-- the checks of some qubits after those of ds, each once
abbrev pub local_checks : Layout → List ℕ → List ℕ → List ℕ
local_checks c ds [] = ds
local_checks c ds (v ∷ vs) = local_checks c (gathered ds (c.checks_of v)) vs

-- bit j of words of 64 bits
unfoldable pub bit_at : List ℕ → Set
bit_at ws j = bit (slice_index ws (j / 64)) (j % 64)

-- bit j changed
unfoldable pub marked : List ℕ → ℕ → List ℕ
marked ws j = slice_set ws (j / 64) (bit_xor (slice_index ws (j / 64)) (2 ^ (j % 64)))

-- whether the j-th of the list is in p; no, past its end
abbrev pub at : List ℕ → Set → Set
at [] p j = false
at (d ∷ ds) p zero = p d
at (d ∷ ds) p (suc j) = at ds p j

-- three words have a one at the places of those of ds that are in p, and nowhere else
pub record Marks (ds : List ℕ) (p : Set) (ws : List ℕ) : Type 0 where
  pub three : length ws ≡ 3
  pub words : All (λ w. w < 2 ^ 64) ws
  pub each : (j : ℕ) → bit_at ws j ≡ at ds p j

-- 1 for yes, 0 for no
abbrev pub one_if : Bool → ℕ
one_if b = cond b 1 0

-- for each qubit of the list, side by side, the places of its checks among ds
abbrev pub Rows : Layout → List ℕ → List ℕ → List (List ℕ) → Type 0
Rows c ds [] [] = Unit {0}
Rows c ds [] (r ∷ rows) = ⊥
Rows c ds (x ∷ xs) [] = ⊥
Rows c ds (x ∷ xs) (r ∷ rows) = Marks ds (has (c.checks_of x)) r × Rows c ds xs rows

-- the set of a list's numbers that has number n: the first of the list is the highest bit
abbrev pub picked : ℕ → List ℕ → List ℕ
picked n [] = []
picked n (x ∷ xs) = cond (bit n (length xs)) (x ∷ picked n xs) (picked n xs)

-- the best set of a list, told by its fall and its number
pub record BestBy (w : List ℕ → ℕ) (xs : List ℕ) (fall picks : ℕ) : Type 0 where
  pub falls : fall ≡ w [] - w (best_set w xs)
  pub is : picked picks xs ≡ best_set w xs
