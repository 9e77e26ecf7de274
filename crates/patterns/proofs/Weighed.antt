-- The weight of a pattern counts its set. Assumes nothing.
use Rattle.std.proofs.Common.{◌≡◌, ℕ, zero, suc, ◌+◌, ◌-◌, ◌*◌, ◌/◌, ◌%◌, ◌^◌, ◌<◌, ◌≤◌, Bool, false, cond, ◌||◌, eqb, List, [], ◌∷◌, length, get_or, sym, refl, ap, ◌∙◌, ap₂, sum_by, arith}
use mir.Val.{Fits}
use mir.Syntax.{w8}
use lib.Count.{ones, ones_step}
use Rattle.std.proofs.lemmas.List.Sums.{sum_by-cons}
use Rattle.std.proofs.lemmas.Nat.Bits.{bit_at-suc, bit_at_lowest}
use Rattle.std.proofs.lemmas.Grind.{common_steps}
use Rattle.patterns.specs.Sets.{Set, tally, members, has}
use Rattle.patterns.specs.Patterns.{bit, member, byte_weight, weight, Well}
use Rattle.patterns.proofs.Values.{digit_back}
use Rattle.patterns.proofs.Packed.{member_below}

pub tally_same : (n : ℕ) (s t : Set) → ((k : ℕ) → k < n → s k ≡ t k) → tally n s ≡ tally n t
tally_same zero s t h = refl
tally_same (suc n) s t h = grind (arith, common_steps, h n, tally_same n s t (λ k l. h k (omega arith)))

pub tally_none : (n : ℕ) (s : Set) → ((k : ℕ) → k < n → s k ≡ false) → tally n s ≡ 0
tally_none zero s h = refl
tally_none (suc n) s h = grind (arith, common_steps, h n, tally_none n s (λ k l. h k (omega arith)))

-- one turn of a loop that counts
pub tally_more : (n : ℕ) (s : Set) (b : Bool) → s n ≡ b → tally (n + 1) s ≡ cond b 1 0 + tally n s
tally_more n s b e = grind (arith, common_steps)

pub length_members : (n : ℕ) (s : Set) → length (members n s) ≡ tally n s
length_members zero s = refl
length_members (suc n) s = grind (arith, common_steps, length_members n s)

-- the first a, and the rest
pub tally_split : (a n : ℕ) (s : Set) → tally (n + a) s ≡ tally a s + tally n (λ k. s (k + a))
tally_split a zero s = grind (arith, common_steps)
tally_split a (suc n) s = let more : suc n + a ≡ suc (n + a) = omega arith in rw more (omega (arith, tally_split a n s))

-- the ones of a number of d bits
pub ones_tally : (d n : ℕ) → n < 2 ^ d → ones n ≡ tally d (bit n)
unfolding ones
ones_tally zero n h = let z : n ≡ 0 = omega arith in ap ones z
ones_tally (suc d) n h =
    let more : suc d ≡ d + 1 = omega arith in
    let half : n / 2 < 2 ^ d = grind (arith, common_steps) in
    let rest = tally_same d (λ k. bit n (k + 1)) (bit (n / 2)) (λ k _. grind (arith, common_steps, bit_at-suc n k)) in
    let apart : tally 1 (bit n) + tally d (λ k. bit n (k + 1)) ≡ n % 2 + ones (n / 2) = grind (arith, common_steps, bit_at_lowest n, digit_back (n % 2) (omega arith), rest, ones_tally d (n / 2) half) in
    ones_step n ∙ sym (ap (λ m. tally m (bit n)) more ∙ tally_split 1 d (bit n) ∙ apart)

pub byte_weight_is : (b : ℕ) → b < 256 → byte_weight b ≡ ones b
unfolding byte_weight
byte_weight_is b h = sym (ones_tally 8 b h)

pub weight_tally : (p : List ℕ) → weight p ≡ tally (length p * 8) (member p)
unfolding byte_weight member
weight_tally [] = refl
weight_tally (b ∷ bs) =
    let more : suc (length bs) * 8 ≡ length bs * 8 + 8 = omega arith in
    let first = tally_same 8 (member (b ∷ bs)) (bit b) (λ k h. grind (arith, common_steps)) in
    let rest = tally_same (length bs * 8) (λ k. member (b ∷ bs) (k + 8)) (member bs) (λ k h. grind (arith, common_steps)) in
    sym (ap (λ n. tally n (member (b ∷ bs))) more ∙ tally_split 8 (length bs * 8) (member (b ∷ bs)) ∙ ap₂ ◌+◌ first (rest ∙ sym (weight_tally bs)))

-- the weight of a pattern of c items is the number of its members
pub weight_well : (c : ℕ) (p : List ℕ) → Well c p → weight p ≡ tally c (member p)
weight_well c p w =
    let room : length p * 8 ≡ (length p * 8 - c) + c = grind (arith, common_steps, w.long) in
    let none = tally_none (length p * 8 - c) (λ k. member p (k + c)) (λ k _. grind (arith, common_steps, member_below c p w (k + c))) in
    grind (arith, common_steps, weight_tally p, tally_split c (length p * 8 - c) (member p), none)

-- ---- at most as many as a list has

or_digits : (a b : Bool) → cond (a || b) 1 0 ≤ cond a 1 0 + cond b 1 0
or_digits a b = grind (arith, common_steps)

tally_or : (n : ℕ) (s t : Set) → tally n (λ k. s k || t k) ≤ tally n s + tally n t
tally_or zero s t = omega arith
tally_or (suc n) s t = omega (arith, tally_or n s t, or_digits (s n) (t n))

tally_one : (n x : ℕ) → (tally n (eqb x) ≤ 1) × (n ≤ x → tally n (eqb x) ≡ 0)
tally_one zero x = (omega arith, λ _. refl)
tally_one (suc n) x = let known = tally_one n x in (grind (arith, common_steps, known.0, known.1), λ h. grind (arith, common_steps, known.1))

pub tally_has : (n : ℕ) (xs : List ℕ) → tally n (has xs) ≤ length xs
tally_has n [] = let z : tally n (has []) ≡ 0 = tally_none n (has []) (λ _ _. refl) in omega arith
tally_has n (x ∷ xs) = omega (arith, tally_or n (eqb x) (has xs), (tally_one n x).0, tally_has n xs)
