-- Numbers made of bits. Assumes nothing.
use Rattle.std.proofs.Common.{◌≡◌, ℕ, zero, suc, ◌+◌, ◌*◌, ◌/◌, ◌%◌, ◌^◌, ◌<◌, ◌≤◌, false, cond, eqb, sym, refl, ◌∙◌, ap₂, mod-eq_of_lt, arith, pow_pos, pow_mono}
use lib.Bits.{bit_xor, xor_lt}
use lib.Pow.{pow-lt}
use Rattle.std.proofs.lemmas.Grind.{common_steps}
use Rattle.std.proofs.lemmas.Nat.{mod-pow-add}
use Rattle.std.proofs.lemmas.Nat.Bits.{bit_at-lt, bit_at_cat_low, bit_at_cat_high, same_from_bits_below}
use Rattle.patterns.specs.Sets.{Set, ◌⊕◌}
use Rattle.patterns.specs.Patterns.{bit, value}
use Rattle.patterns.proofs.Bits.{bit_of_xor, bit_pow}

pub value_lt : (n : ℕ) (s : Set) → value n s < 2 ^ n
value_lt zero s = omega arith
value_lt (suc n) s = grind (arith, common_steps, value_lt n s)

pub value_same : (n : ℕ) (s t : Set) → ((k : ℕ) → k < n → s k ≡ t k) → value n s ≡ value n t
value_same zero s t h = refl
value_same (suc n) s t h = ap₂ (λ b r. cond b 1 0 * 2 ^ n + r) (h n (omega arith)) (value_same n s t (λ k l. h k (omega arith)))

-- no bit from j on
pub value_small : (n j : ℕ) (s : Set) → ((k : ℕ) → j ≤ k → k < n → s k ≡ false) → value n s < 2 ^ j
value_small zero j s h = pow_pos j
value_small (suc n) j s h =
    let more : suc n ≤ j → 2 ^ suc n ≤ 2 ^ j = pow_mono in
    grind (arith, common_steps, value_lt (suc n) s, h n, value_small n j s (λ k a b. h k a (omega arith)))

pub bit_value : (n : ℕ) (s : Set) (k : ℕ) → k < n → bit (value n s) k ≡ s k
bit_value zero s k h = absurd (omega arith)
bit_value (suc n) s k h =
    grind (arith, common_steps, bit_at_cat_low (cond (s n) 1 0) n (value n s) k, bit_at_cat_high (cond (s n) 1 0) n (value n s) k (value_lt n s), bit_value n s k)

pub digit_back : (d : ℕ) → d < 2 → cond (eqb d 1) 1 0 ≡ d
digit_back d h = grind (arith, common_steps)

pub value_bit : (n x : ℕ) → value n (bit x) ≡ x % 2 ^ n
value_bit zero x = omega arith
value_bit (suc n) x = grind (arith, common_steps, digit_back (x / 2 ^ n % 2) (omega arith), value_bit n x, mod-pow-add x 1 n)

-- ---- bytes

pub value_of_byte : (x : ℕ) → x < 256 → value 8 (bit x) ≡ x
value_of_byte x h = value_bit 8 x ∙ mod-eq_of_lt h

-- bytes of the same bits are the same
pub same_byte : (x y : ℕ) → x < 256 → y < 256 → ((k : ℕ) → k < 8 → bit x k ≡ bit y k) → x ≡ y
same_byte x y hx hy h = same_from_bits_below 8 x y hx hy (λ k l. grind (arith, common_steps, h k l, bit_at-lt x k, bit_at-lt y k))

pub value_xor : (s t : Set) → value 8 (λ k. s k ⊕ t k) ≡ bit_xor (value 8 s) (value 8 t)
value_xor s t =
    value_same 8 (λ k. s k ⊕ t k) (bit (bit_xor (value 8 s) (value 8 t))) (λ k h. sym (bit_of_xor (value 8 s) (value 8 t) k ∙ ap₂ ◌⊕◌ (bit_value 8 s k h) (bit_value 8 t k h)))
    ∙ value_of_byte (bit_xor (value 8 s) (value 8 t)) (xor_lt 8 (value 8 s) (value 8 t) (value_lt 8 s) (value_lt 8 t))

pub value_none : (s : Set) → ((k : ℕ) → k < 8 → s k ≡ false) → value 8 s ≡ 0
value_none s h = let z : value 8 s < 2 ^ 0 = value_small 8 0 s (λ k _ l. h k l) in omega arith

pub value_one : (j : ℕ) → j < 8 → value 8 (eqb j) ≡ 2 ^ j
value_one j h = value_same 8 (eqb j) (bit (2 ^ j)) (λ k _. sym (bit_pow j k)) ∙ value_of_byte (2 ^ j) (pow-lt h)
