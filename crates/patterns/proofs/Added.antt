-- What a set added to a pattern leaves. Assumes nothing.
use Rattle.std.proofs.Common.{◌≡◌, ℕ, ◌+◌, ◌*◌, ◌/◌, ◌%◌, ◌^◌, ◌<◌, true, false, ltb, List, length, get_or, replicate, sym, refl, ◌∙◌, arith}
use native.Mathlib.Nat.{div-eq_of_lt}
use lib.Bits.{bit_xor, xor_lt, xor_assoc, xor_zero_r, xor_zero_l}
use Rattle.std.proofs.lemmas.List.FromFn.{length-map-range_with_len, get_or-map-range_with_len}
use Rattle.std.proofs.lemmas.List.{ext_get_or, length-replicate, get_or-replicate}
use Rattle.std.proofs.lemmas.Bool.{eq-eqb, eqb-true}
use Rattle.std.proofs.lemmas.Grind.{common_steps}
use Rattle.patterns.specs.Sets.{Set, ◌⊕◌}
use Rattle.patterns.specs.Patterns.{member, value, eight, width, pattern, added, tidy, Well}
use Rattle.patterns.proofs.Sums.{and_plus}
use Rattle.patterns.proofs.Bits.{bit_of_xor, below_power}
use Rattle.patterns.proofs.Values.{value_same, value_small, bit_value, value_xor, value_none}
use Rattle.patterns.proofs.Packed.{length_pattern, getD_pattern, place, eight_same, eight_past, member_past}

pub length_added : (c : ℕ) (p : List ℕ) (s : Set) → length (added c p s) ≡ length p
unfolding added
length_added c p s = length-map-range_with_len (λ i. bit_xor (get_or p i 0) (value 8 (eight c s i))) 0 (length p)

pub getD_added : (c : ℕ) (p : List ℕ) (s : Set) (i : ℕ) → i < length p → get_or (added c p s) i 0 ≡ bit_xor (get_or p i 0) (value 8 (eight c s i))
unfolding added
getD_added c p s i h = get_or-map-range_with_len (λ i. bit_xor (get_or p i 0) (value 8 (eight c s i))) 0 (length p) i i 0 h (omega arith)

-- bytes that are each the sum
pub added_is : (c : ℕ) (p q : List ℕ) (s : Set) → length q ≡ length p → ((i : ℕ) → i < length p → get_or q i 0 ≡ bit_xor (get_or p i 0) (value 8 (eight c s i))) → q ≡ added c p s
added_is c p q s e h =
    ext_get_or 0 q (added c p s) (e ∙ sym (length_added c p s)) (λ i l. grind (arith, common_steps, h i, getD_added c p s i))

pub member_added : (c : ℕ) (p : List ℕ) (s : Set) → Well c p → (k : ℕ) → k < c → member (added c p s) k ≡ (member p k ⊕ s k)
unfolding member
member_added c p s w k h =
    grind (arith, common_steps, w.long, getD_added c p s (k / 8), bit_of_xor (get_or p (k / 8) 0) (value 8 (eight c s (k / 8))) (k % 8), bit_value 8 (eight c s (k / 8)) (k % 8), place k)

pub well_added : (c : ℕ) (p : List ℕ) (s : Set) → Well c p → Well c (added c p s)
unfolding tidy
well_added c p s w =
    let few = value_small 8 (c % 8) (eight c s (c / 8)) (λ k a _. eight_past c s k a) in
    let old : get_or p (c / 8) 0 < 2 ^ (c % 8) = below_power (get_or p (c / 8) 0) (c % 8) (eqb-true (get_or p (c / 8) 0 / 2 ^ (c % 8)) 0 w.clean) in
    let small : get_or (added c p s) (c / 8) 0 < 2 ^ (c % 8) = grind (arith, common_steps, length_added c p s, getD_added c p s (c / 8), xor_lt (c % 8) (get_or p (c / 8) 0) (value 8 (eight c s (c / 8))) old few, old) in
    record {
      long = grind (arith, common_steps, w.long, length_added c p s);
      clean = eq-eqb (get_or (added c p s) (c / 8) 0 / 2 ^ (c % 8)) 0 (div-eq_of_lt small);
    }

-- what the sum holds is in one of the two
pub member_added_in : (c : ℕ) (p : List ℕ) (s : Set) → Well c p → (k : ℕ) → member (added c p s) k ≡ true → (member p k ⊕ s k) ≡ true
member_added_in c p s w k h = grind (arith, common_steps, member_added c p s w k, member_past c (added c p s) (well_added c p s w) k)

pub added_same : (c : ℕ) (p : List ℕ) (s t : Set) → ((k : ℕ) → k < c → s k ≡ t k) → added c p s ≡ added c p t
added_same c p s t h =
    added_is c p (added c p s) t (length_added c p s) (λ i l. grind (arith, common_steps, getD_added c p s i, value_same 8 (eight c s i) (eight c t i) (λ k _. eight_same c s t i h k)))

pub added_added : (c : ℕ) (p : List ℕ) (s t : Set) → added c (added c p s) t ≡ added c p (λ k. s k ⊕ t k)
added_added c p s t =
    added_is c p (added c (added c p s) t) (λ k. s k ⊕ t k) (length_added c (added c p s) t ∙ length_added c p s)
    (λ i l.
    let both = value_same 8 (eight c (λ k. s k ⊕ t k) i) (λ k. eight c s i k ⊕ eight c t i k) (λ k _. and_plus (ltb (i * 8 + k) c) (s (i * 8 + k)) (t (i * 8 + k))) ∙ value_xor (eight c s i) (eight c t i) in
    grind (arith, common_steps, both, length_added c p s, getD_added c (added c p s) t i, getD_added c p s i, xor_assoc (get_or p i 0) (value 8 (eight c s i)) (value 8 (eight c t i))))

pub eight_none : (c : ℕ) (s : Set) (i : ℕ) → ((k : ℕ) → s k ≡ false) → value 8 (eight c s i) ≡ 0
eight_none c s i h = value_none (eight c s i) (λ k _. grind (arith, common_steps, h (i * 8 + k)))

pub added_none : (c : ℕ) (p : List ℕ) (s : Set) → ((k : ℕ) → s k ≡ false) → p ≡ added c p s
added_none c p s h = added_is c p p s refl (λ i l. grind (arith, common_steps, eight_none c s i h, xor_zero_r (get_or p i 0)))

-- a set added to the empty pattern
pub added_to_none : (c : ℕ) (s : Set) → added c (replicate (width c) 0) s ≡ pattern c s
added_to_none c s =
    sym (added_is c (replicate (width c) 0) (pattern c s) s (length_pattern c s ∙ sym (length-replicate {A = ℕ} (width c) 0))
    (λ i l. grind (arith, common_steps, length-replicate {A = ℕ} (width c) 0, getD_pattern c s i, get_or-replicate {A = ℕ} (width c) i 0 0, xor_zero_l (value 8 (eight c s i)))))
