-- Bytes in hexadecimal. Assumes nothing.
use Rattle.std.specs.Prelude.{ℕ, ◌+◌, ◌/◌, ◌%◌, cond, List, [], ◌∷◌, nat_lt}

-- the capital digit of a number below 16
abbrev pub hex_digit : ℕ → ℕ
hex_digit v = cond (nat_lt v 10) (48 + v) (55 + v)

-- two digits a byte, the high one first, with nothing between
abbrev pub hexed : List ℕ → List ℕ
hexed [] = []
hexed (b ∷ bs) = hex_digit (b / 16) ∷ hex_digit (b % 16) ∷ hexed bs
