-- A matrix of bits: rows that are patterns over the columns, one after another in bytes. Assumes nothing.
use Rattle.std.specs.Prelude.{ℕ, ◌*◌, Bool, ◌&&◌, List, length, take, drop, ◌==◌, nat_le}
use Rattle.patterns.specs.Sets.{Set, all_below, tally}
use Rattle.patterns.specs.Patterns.{width, member, tidy}

-- row u of the bytes, over n columns
abbrev pub row : ℕ → List ℕ → ℕ → List ℕ
row n bytes u = take (width n) (drop (width n * u) bytes)

-- whether row u has column v
abbrev pub entry : ℕ → List ℕ → ℕ → Set
entry n bytes u v = member (row n bytes u) v

-- the same, by column and row
abbrev pub turned_entry : ℕ → List ℕ → ℕ → Set
turned_entry n bytes v u = entry n bytes u v

-- whether there are just the bytes of m rows
abbrev pub just_rows : ℕ → ℕ → List ℕ → Bool
just_rows m n bytes = length bytes == m * width n

-- whether the unused bits of each of m rows are zero
abbrev pub tidy_rows : ℕ → ℕ → List ℕ → Bool
tidy_rows m n bytes = all_below m (λ u. tidy n (row n bytes u))

-- whether each of m rows has at most `most` of n columns
abbrev pub few : ℕ → ℕ → ℕ → (ℕ → Set) → Bool
few most m n joined = all_below m (λ u. nat_le (tally n (joined u)) most)

-- whether each of m rows and each of n columns has at most `most` ones
abbrev pub sparse : ℕ → ℕ → ℕ → List ℕ → Bool
sparse most m n bytes = few most m n (entry n bytes) && few most n m (turned_entry n bytes)
