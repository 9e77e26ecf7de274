-- Changes of single items, and of each item of a list. Assumes nothing.
use Rattle.std.proofs.Common.{◌≡◌, ℕ, ◌-◌, ◌/◌, ◌%◌, ◌^◌, ◌<◌, ◌≤◌, true, cond, eqb, List, [], ◌∷◌, length, get_or, set, sym, refl, ap, ◌∙◌, ⊎_elim, arith}
use lib.Bits.{bit_xor, bit_and, xor_lt, xor_zero_r, and_le_l}
use lib.Pow.{pow-lt}
use Rattle.std.proofs.lemmas.Bool.{cases_eq, eqb-true, or_right}
use mir.Syntax.{w8}
use Rattle.std.proofs.lemmas.Nat.Bits.{bit_at_not}
use Rattle.std.proofs.lemmas.Grind.{common_steps}
use Rattle.patterns.specs.Sets.{◌⊕◌, has, Apart}
use Rattle.patterns.specs.Patterns.{bit, member, toggled, toggled_all, cleared, value, eight, width, added, fitting}
use Rattle.patterns.proofs.Sums.{plus_comm}
use Rattle.patterns.proofs.Lists.{has_here, has_more}
use Rattle.patterns.proofs.Bits.{bit_of_xor, bit_of_and, bit_pow}
use Rattle.patterns.proofs.Values.{value_same, value_none, value_one, same_byte}
use Rattle.patterns.proofs.Added.{added_is, added_none, added_same, added_added}

pub length_toggled : (p : List ℕ) (k : ℕ) → length (toggled p k) ≡ length p
unfolding toggled
length_toggled p k = grind (arith, common_steps)

pub length_toggled_all : (ks p : List ℕ) → length (toggled_all p ks) ≡ length p
length_toggled_all [] p = refl
length_toggled_all (k ∷ ks) p = length_toggled_all ks (toggled p k) ∙ length_toggled p k

pub toggled_past : (p : List ℕ) (k : ℕ) → length p ≤ k / 8 → toggled p k ≡ p
unfolding toggled
toggled_past p k h = grind (arith, common_steps)

-- items are equal where their bytes and their bits are
same_place : (k j : ℕ) → j / 8 ≡ k / 8 → eqb (k % 8) (j % 8) ≡ eqb k j
same_place k j same = grind (arith, common_steps)

pub member_toggled : (p : List ℕ) (k j : ℕ) → k / 8 < length p → member (toggled p k) j ≡ (eqb k j ⊕ member p j)
unfolding member toggled
member_toggled p k j within =
    grind (arith, common_steps, bit_of_xor (get_or p (k / 8) 0) (2 ^ (k % 8)) (j % 8), plus_comm (bit (get_or p (k / 8) 0) (j % 8)) (eqb k j), bit_pow (k % 8) (j % 8), same_place k j)

-- of each byte's eight, the set of one item has that item's bit alone
value_of_item : (c k i : ℕ) → k < c → value 8 (eight c (eqb k) i) ≡ cond (eqb i (k / 8)) (2 ^ (k % 8)) 0
value_of_item c k i h =
    ⊎_elim
    (λ same. value_same 8 (eight c (eqb k) i) (eqb (k % 8)) (λ j b. grind (arith, common_steps)) ∙ value_one (k % 8) (omega arith) ∙ grind (arith, common_steps))
    (λ other. value_none (eight c (eqb k) i) (λ j b. grind (arith, common_steps)) ∙ grind (arith, common_steps))
    (cases_eq i (k / 8))

-- a change of one item is the sum with the set of that item
pub toggled_is : (c : ℕ) (p : List ℕ) (k : ℕ) → fitting c p ≡ true → k < c → toggled p k ≡ added c p (eqb k)
unfolding toggled
toggled_is c p k fits h =
    added_is c p (toggled p k) (eqb k) (length_toggled p k) (λ i l. grind (arith, common_steps, eqb-true (length p) (width c) fits, value_of_item c k i h, xor_zero_r (get_or p i 0)))

pub toggled_all_is : (c : ℕ) (ks p : List ℕ) → fitting c p ≡ true → ((k : ℕ) → has ks k ≡ true → k < c) → Apart ks → toggled_all p ks ≡ added c p (has ks)
toggled_all_is c [] p fits h a = added_none c p (has []) (λ _. refl)
toggled_all_is c (x ∷ ks) p fits h a =
    toggled_all_is c ks (toggled p x) (ap (λ n. eqb n (width c)) (length_toggled p x) ∙ fits) (λ y k. h y (or_right (eqb x y) (has ks y) k)) a.1
    ∙ ap (λ q. added c q (has ks)) (toggled_is c p x fits (h x (has_here x ks)))
    ∙ added_added c p (eqb x) (has ks)
    ∙ added_same c p (λ k. eqb x k ⊕ has ks k) (has (x ∷ ks)) (λ k _. sym (has_more x ks k a.0))

-- ---- an item taken out by a mask

pub and_mask_bit : (b j : ℕ) → b < 256 → j < 8 → bit_and b (255 - 2 ^ j) ≡ cond (bit b j) (bit_xor b (2 ^ j)) b
and_mask_bit b j hb hj =
    let small : 2 ^ j < 2 ^ 8 = pow-lt hj in
    same_byte (bit_and b (255 - 2 ^ j)) (cond (bit b j) (bit_xor b (2 ^ j)) b)
    (omega (arith, and_le_l b (255 - 2 ^ j)))
    (grind (arith, common_steps, xor_lt 8 b (2 ^ j) hb small))
    (λ i h. grind (arith, common_steps, bit_of_and b (255 - 2 ^ j) i, bit_of_xor b (2 ^ j) i, bit_pow j i, bit_at_not w8 (2 ^ j) i small h))

-- a byte cleared by a mask is the pattern with the item taken out
pub cleared_is : (p : List ℕ) (k : ℕ) → get_or p (k / 8) 0 < 256 → set p (k / 8) (bit_and (get_or p (k / 8) 0) (255 - 2 ^ (k % 8))) ≡ cleared p k
unfolding member toggled
cleared_is p k h = grind (arith, common_steps, and_mask_bit (get_or p (k / 8) 0) (k % 8) h (omega arith))
