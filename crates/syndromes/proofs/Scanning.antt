-- The parity of a set over the qubits of a check. Assumes nothing.
use Rattle.std.proofs.Common.{◌≡◌, ℕ, ◌+◌, ◌%◌, ◌<◌, Bool, true, false, cond, not, eqb, ltb, ◌&&◌, zero, suc, List, [], ◌∷◌, length, filter, sym, refl, ap, ◌∙◌, ap₂, arith}
use mathlib.Core.Bool.{beq}
use Rattle.std.specs.List.{fold}
use Rattle.std.proofs.lemmas.Bool.{cond-true, lt-ltb}
use Rattle.patterns.specs.Sets.{Set, ◌⊕◌, parity, all_below}
use Rattle.matrices.specs.Relations.{neighbours}
use Rattle.codes.specs.Layouts.{Layout}
use Rattle.syndromes.specs.Syndromes.{syndrome_of}

-- a turn at each place that holds an item of the set, from a flag, adds the parity to the flag
pub parity_folded : (s : Set) (b : Bool) (xs : List ℕ) → fold (λ odd v. not (beq odd (s v))) b xs ≡ (b ⊕ parity s xs)
parity_folded s true [] = refl
parity_folded s false [] = refl
parity_folded s b (x ∷ xs) = parity_folded s (not (beq b (s x))) xs ∙ turned b (s x) (parity s xs)
  where
    turned : (b c p : Bool) → (not (beq b c) ⊕ p) ≡ (b ⊕ (c ⊕ p))
    turned true true true = refl
    turned true true false = refl
    turned true false true = refl
    turned true false false = refl
    turned false true true = refl
    turned false true false = refl
    turned false false true = refl
    turned false false false = refl

-- of a check that there is, this is its place in the syndrome
pub odd_syndrome : (c : Layout) (s : Set) (u : ℕ) → u < c.checks → parity s (neighbours c.checks c.of_check u) ≡ syndrome_of c s u
odd_syndrome c s u h = ap (parity s) (cond-true (ltb u c.checks) (c.of_check u) [] (lt-ltb u c.checks h))

-- two answers are equal when not just one is yes
pub same_not_plus : (a b : Bool) → beq a b ≡ not (a ⊕ b)
same_not_plus true true = refl
same_not_plus true false = refl
same_not_plus false true = refl
same_not_plus false false = refl

pub all_below_same : (n : ℕ) (s t : Set) → ((u : ℕ) → u < n → s u ≡ t u) → all_below n s ≡ all_below n t
all_below_same zero s t h = refl
all_below_same (suc n) s t h = ap₂ ◌&&◌ (all_below_same n s t (λ u l. h u (omega arith))) (h n (omega arith))
