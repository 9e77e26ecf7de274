-- The walk over all sets of at most twelve rows of three words. Assumes nothing.
use Rattle.std.specs.Prelude.{ℕ, ◌+◌, ◌*◌, Bool, cond, ◌&&◌, ◌||◌, List, [], ◌∷◌, length, Some, None, Option, ◌==◌, bit_xor, count_ones, nat_le, nat_lt, slice_index}
use Rattle.best_sets.specs.declared.Choice.{Choice}

-- three words with another three added, bit by bit
abbrev pub changed_by : List ℕ → List ℕ → List ℕ
changed_by a b = bit_xor (slice_index a 0) (slice_index b 0) ∷ bit_xor (slice_index a 1) (slice_index b 1) ∷ bit_xor (slice_index a 2) (slice_index b 2) ∷ []

-- how many ones three words have
abbrev pub weighed : List ℕ → ℕ
weighed a = count_ones (slice_index a 0) + count_ones (slice_index a 1) + count_ones (slice_index a 2)

-- less is left; of equals there are fewer rows; of equals again the number is greater, so the first row where they differ is one of a's
abbrev pub wins : Choice → Choice → Bool
wins a b = nat_lt a.weight b.weight || (a.weight == b.weight && (nat_lt a.size b.size || (a.size == b.size && nat_lt b.picks a.picks)))

-- The best of a choice and of each set that adds some of the rows to the set with this size and this number, which leaves these three words.
-- The sets with a row come before those without it, and of equals the first stays.
unfoldable pub walked : List (List ℕ) → List ℕ → ℕ → ℕ → Choice → Choice
walked [] left size picks best = let here : Choice = record { weight = weighed left; size = size; picks = picks } in cond (wins here best) here best
walked (row ∷ rows) left size picks best = walked rows left size (2 * picks) (walked rows (changed_by left row) (size + 1) (2 * picks + 1) best)

-- the best of all sets of at most twelve rows, where the empty set leaves `start`
abbrev pub walk_of : List (List ℕ) → List ℕ → Option Choice
walk_of rows start = cond (nat_le (length rows) 12) (Some (walked rows start 0 0 (record { weight = weighed start; size = 0; picks = 0 }))) None
