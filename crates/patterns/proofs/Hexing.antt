-- One turn of the loop that writes hexadecimal digits, and its end. Assumes nothing.
use Rattle.std.proofs.Common.{◌≡◌, ℕ, ◌+◌, ◌*◌, ◌/◌, ◌%◌, ◌<◌, ◌≤◌, List, [], ◌∷◌, ◌++◌, length, get_or, take, drop, set, refl, arith}
use Rattle.std.proofs.lemmas.List.{at_drop_more, take-append-drop}
use Rattle.std.proofs.lemmas.Grind.{common_steps}
use Rattle.patterns.specs.Hex.{hex_digit, hexed}

pub length_hexed : (bs : List ℕ) → length (hexed bs) ≡ 2 * length bs
length_hexed [] = refl
length_hexed (b ∷ bs) = omega (arith, length_hexed bs)

-- two digits more at the front
pub two_more : (out : List ℕ) (i h l : ℕ) → 2 * i + 1 < length out → take (2 * (i + 1)) (set (set out (2 * i) h) (2 * i + 1) l) ≡ (take (2 * i) out ++ h ∷ []) ++ l ∷ []
two_more out i h l lt = grind (arith, common_steps)

pub hexed_more : (out bs : List ℕ) (i h l : ℕ)
    → i < length bs
    → 2 * i + 1 < length out
    → h ≡ hex_digit (get_or bs i 0 / 16)
    → l ≡ hex_digit (get_or bs i 0 % 16)
    → take (2 * i) out ++ hexed (drop i bs) ≡ hexed bs
    → take (2 * (i + 1)) (set (set out (2 * i) h) (2 * i + 1) l) ++ hexed (drop (i + 1) bs) ≡ hexed bs
hexed_more out bs i h l within room p q e = grind (arith, common_steps, at_drop_more hexed bs i 0 within, two_more out i h l room)

-- what the loop leaves: the digits, and the rest as it was
pub hexed_all : (out old bs : List ℕ) (i : ℕ)
    → length bs ≤ i
    → i ≤ length bs
    → take (2 * i) out ++ hexed (drop i bs) ≡ hexed bs
    → drop (2 * i) out ≡ drop (2 * i) old
    → out ≡ hexed bs ++ drop (length (hexed bs)) old
hexed_all out old bs i past within front rest = grind (arith, common_steps, length_hexed bs, take-append-drop (2 * i) out)

pub rest_stays : (out old : List ℕ) (i h l : ℕ) → drop (2 * i) out ≡ drop (2 * i) old → drop (2 * (i + 1)) (set (set out (2 * i) h) (2 * i + 1) l) ≡ drop (2 * (i + 1)) old
rest_stays out old i h l e = grind (arith, common_steps)

-- what the writer of digits rests on
pub ruleset digits = (length_hexed, hexed_more, rest_stays, hexed_all)
