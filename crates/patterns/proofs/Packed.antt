-- A pattern holds its set, and a well-formed pattern is the pattern of its members. Assumes nothing.
use Rattle.std.proofs.Common.{◌≡◌, ℕ, ◌+◌, ◌*◌, ◌/◌, ◌%◌, ◌^◌, ◌<◌, ◌≤◌, true, false, List, length, get_or, sym, ◌∙◌, arith, pow_pos}
use native.Mathlib.Nat.{div-eq_of_lt}
use Rattle.std.proofs.lemmas.List.FromFn.{length-map-range_with_len, get_or-map-range_with_len}
use Rattle.std.proofs.lemmas.List.{ext_get_or}
use Rattle.std.proofs.lemmas.Bool.{eqb-true, eq-eqb}
use Rattle.std.proofs.lemmas.Grind.{common_steps}
use Rattle.patterns.specs.Sets.{Set}
use Rattle.patterns.specs.Patterns.{bit, member, value, eight, width, pattern, tidy, Well, Bytes}
use Rattle.patterns.proofs.Bits.{bit_high, bit_zero}
use Rattle.patterns.proofs.Values.{value_lt, value_same, value_small, bit_value, value_of_byte}

pub length_pattern : (c : ℕ) (s : Set) → length (pattern c s) ≡ width c
unfolding pattern
length_pattern c s = length-map-range_with_len (λ i. value 8 (eight c s i)) 0 (width c)

pub getD_pattern : (c : ℕ) (s : Set) (i : ℕ) → i < width c → get_or (pattern c s) i 0 ≡ value 8 (eight c s i)
unfolding pattern
getD_pattern c s i h = get_or-map-range_with_len (λ i. value 8 (eight c s i)) 0 (width c) i i 0 h (omega arith)

pub place : (k : ℕ) → k / 8 * 8 + k % 8 ≡ k
place k = omega arith

-- the eight items of a byte go by the set below c alone
pub eight_same : (c : ℕ) (s t : Set) (i : ℕ) → ((k : ℕ) → k < c → s k ≡ t k) → (k : ℕ) → eight c s i k ≡ eight c t i k
eight_same c s t i h k = grind (arith, common_steps, h (i * 8 + k))

-- of the last byte's eight, those past the items are none
pub eight_past : (c : ℕ) (s : Set) (k : ℕ) → c % 8 ≤ k → eight c s (c / 8) k ≡ false
eight_past c s k h = grind (arith, common_steps)

pub member_pattern : (c : ℕ) (s : Set) (k : ℕ) → k < c → member (pattern c s) k ≡ s k
unfolding member
member_pattern c s k h = grind (arith, common_steps, getD_pattern c s (k / 8), bit_value 8 (eight c s (k / 8)) (k % 8), place k)

pub pattern_same : (c : ℕ) (s t : Set) → ((k : ℕ) → k < c → s k ≡ t k) → pattern c s ≡ pattern c t
pattern_same c s t h =
    ext_get_or 0 (pattern c s) (pattern c t) (length_pattern c s ∙ sym (length_pattern c t))
    (λ i l. grind (arith, common_steps, length_pattern c s, getD_pattern c s i, getD_pattern c t i, value_same 8 (eight c s i) (eight c t i) (λ k _. eight_same c s t i h k)))

pub pattern_well : (c : ℕ) (s : Set) → Well c (pattern c s)
unfolding tidy
pattern_well c s = record {
  long = grind (arith, common_steps, length_pattern c s);
  clean =
      let few = value_small 8 (c % 8) (eight c s (c / 8)) (λ k a _. eight_past c s k a) in
      let small : get_or (pattern c s) (c / 8) 0 < 2 ^ (c % 8) = grind (arith, common_steps, length_pattern c s, getD_pattern c s (c / 8), few, pow_pos (c % 8)) in
      eq-eqb (get_or (pattern c s) (c / 8) 0 / 2 ^ (c % 8)) 0 (div-eq_of_lt small);
}

pub pattern_bytes : (c : ℕ) (s : Set) → Bytes (pattern c s)
pattern_bytes c s i l = grind (arith, common_steps, length_pattern c s, getD_pattern c s i, value_lt 8 (eight c s i))

-- the last byte of a well-formed pattern holds no more than its items
last_byte : (c : ℕ) (p : List ℕ) → Well c p → (i : ℕ) → c / 8 ≡ i → get_or p i 0 / 2 ^ (c % 8) ≡ 0
unfolding tidy
last_byte c p w i e = grind (arith, common_steps, w.clean)

pub well_pattern : (c : ℕ) (p : List ℕ) → Well c p → Bytes p → p ≡ pattern c (member p)
unfolding member
well_pattern c p w small =
    let long = eqb-true (length p) (width c) w.long in
    ext_get_or 0 p (pattern c (member p)) (long ∙ sym (length_pattern c (member p)))
    (λ i l.
    let byte = get_or p i 0 in
    let same = value_same 8 (eight c (member p) i) (bit byte) (λ k h. grind (arith, common_steps, last_byte c p w i, bit_high byte (c % 8) k)) in
    grind (arith, common_steps, getD_pattern c (member p) i, same, value_of_byte byte (small i l)))

pub member_past : (c : ℕ) (p : List ℕ) → Well c p → (k : ℕ) → c ≤ k → member p k ≡ false
unfolding member
member_past c p w k h = grind (arith, common_steps, w.long, last_byte c p w (k / 8), bit_high (get_or p (k / 8) 0) (c % 8) (k % 8), bit_zero (k % 8))

pub member_below : (c : ℕ) (p : List ℕ) → Well c p → (k : ℕ) → member p k ≡ true → k < c
member_below c p w k h = grind (arith, common_steps, member_past c p w k)

-- an item past the last byte
pub member_out : (p : List ℕ) (k : ℕ) → length p ≤ k / 8 → member p k ≡ false
unfolding member
member_out p k h = grind (arith, common_steps, bit_zero (k % 8))
