-- Counts of sets: sums, single items, and weights of patterns that change. Assumes nothing.
use Rattle.std.proofs.Common.{◌≡◌, ℕ, zero, suc, ◌+◌, ◌*◌, ◌<◌, ◌≤◌, Bool, true, false, cond, not, ◌&&◌, eqb, List, sym, refl, ap, ◌∙◌, ⊎_elim, arith}
use Rattle.std.proofs.lemmas.Bool.{cases_eq, eqb-true, eq-eqb, both_ways}
use Rattle.patterns.specs.Sets.{Set, ◌⊕◌, tally}
use Rattle.patterns.specs.Patterns.{member, added, weight, Well}
use Rattle.patterns.proofs.Added.{member_added, well_added}
use Rattle.patterns.proofs.Weighed.{tally_same, weight_well}

digit_most : (b : Bool) → cond b 1 0 ≤ 1
digit_most true = omega arith
digit_most false = omega arith

pub tally_most : (n : ℕ) (s : Set) → tally n s ≤ n
tally_most zero s = omega arith
tally_most (suc n) s = omega (arith, tally_most n s, digit_most (s n))

digits : (a b : Bool) → cond (a ⊕ b) 1 0 + 2 * cond (a && b) 1 0 ≡ cond a 1 0 + cond b 1 0
digits true true = refl
digits true false = refl
digits false true = refl
digits false false = refl

-- a sum counts twice less what both have
pub tally_sum : (n : ℕ) (s t : Set) → tally n (λ k. s k ⊕ t k) + 2 * tally n (λ k. s k && t k) ≡ tally n s + tally n t
tally_sum zero s t = refl
tally_sum (suc n) s t = omega (arith, tally_sum n s t, digits (s n) (t n))

pub tally_some : (n : ℕ) (s : Set) (k : ℕ) → k < n → s k ≡ true → 1 ≤ tally n s
tally_some zero s k h e = absurd (omega arith)
tally_some (suc n) s k h e =
    ⊎_elim
    (λ same. let on : ◌≡◌ {A = ℕ} (cond (s n) 1 0) 1 = ap (λ x. cond (s x) 1 0) (sym same) ∙ ap (λ b. cond b 1 0) e in omega (arith, on))
    (λ other. let rest : 1 ≤ tally n s = tally_some n s k (omega arith) e in omega arith)
    (cases_eq k n)

keep_digits : (a b : Bool) → (b ≡ true → a ≡ true) → cond (a && not b) 1 0 + cond b 1 0 ≡ cond a 1 0
keep_digits true true h = refl
keep_digits true false h = refl
keep_digits false true h = absurd (both_ways false refl (h refl))
keep_digits false false h = refl

tally_less : (n : ℕ) (s t : Set) → ((k : ℕ) → t k ≡ true → s k ≡ true) → tally n (λ k. s k && not (t k)) + tally n t ≡ tally n s
tally_less zero s t h = refl
tally_less (suc n) s t h = omega (arith, tally_less n s t h, keep_digits (s n) (t n) (h n))

-- one item taken out
pub tally_without : (n : ℕ) (s : Set) (v : ℕ) → v < n → s v ≡ true → tally n (λ k. s k && not (eqb v k)) < tally n s
tally_without n s v h on =
    omega (arith, tally_less n s (eqb v) (λ k e. ap s (sym (eqb-true v k e)) ∙ on), tally_some n (eqb v) v h (eq-eqb v v refl))

-- ---- patterns

pub weight_added : (c : ℕ) (p : List ℕ) (s : Set) → Well c p → weight (added c p s) ≡ tally c (λ k. member p k ⊕ s k)
weight_added c p s w =
    weight_well c (added c p s) (well_added c p s w) ∙ tally_same c (member (added c p s)) (λ k. member p k ⊕ s k) (member_added c p s w)

pub weight_most : (c : ℕ) (p : List ℕ) → Well c p → weight p ≤ c
weight_most c p w = omega (arith, weight_well c p w, tally_most c (member p))

-- ---- one member taken out

pub taken_out : (a b : Bool) → (a ⊕ (b && a)) ≡ (a && not b)
taken_out true true = refl
taken_out true false = refl
taken_out false true = refl
taken_out false false = refl

pub member_closed : (c : ℕ) (o : List ℕ) (v : ℕ) → Well c o → (w : ℕ) → w < c → member (added c o (λ x. eqb v x && member o x)) w ≡ (member o w && not (eqb v w))
member_closed c o v well w h = member_added c o (λ x. eqb v x && member o x) well w h ∙ taken_out (member o w) (eqb v w)

pub weight_closed : (c : ℕ) (o : List ℕ) (v : ℕ) → Well c o → v < c → member o v ≡ true → weight (added c o (λ x. eqb v x && member o x)) < weight o
weight_closed c o v well h on =
    let now' = weight_added c o (λ x. eqb v x && member o x) well ∙ tally_same c (λ x. member o x ⊕ (eqb v x && member o x)) (λ x. member o x && not (eqb v x)) (λ x _. taken_out (member o x) (eqb v x)) in
    omega (arith, now', weight_well c o well, tally_without c (member o) v h on)
