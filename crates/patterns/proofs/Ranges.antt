-- What holds of the numbers below a bound, by the list of these numbers. Assumes nothing.
use Rattle.std.proofs.Common.{◌≡◌, ℕ, zero, suc, ◌+◌, ◌&&◌, cond, [], ◌∷◌, ◌++◌, length, filter, sym, refl, ap, ◌∙◌, arith}
use Rattle.std.specs.List.{range_with_len, list_all}
use Rattle.std.proofs.Math.Numerals.{add-one}
use Rattle.std.proofs.Math.Bool.{and-true}
use Rattle.std.proofs.iter.Yields.{nat_range_steps}
use Rattle.std.specs.declared.ops.Range.{Range}
use Rattle.std.proofs.lemmas.Iterator.{YieldsList, YieldsList-from_range}
use Rattle.std.proofs.lemmas.List.{map-id}
use Rattle.std.proofs.lemmas.List.FromFn.{map-range_with_len_more}
use Rattle.std.proofs.lemmas.List.Elements.{filter-append}
use Rattle.std.proofs.lemmas.List.Folds.{list_all-append}
use Rattle.patterns.specs.Sets.{Set, members, tally, all_below}
use Rattle.patterns.proofs.Weighed.{length_members}

-- one number more
one_more : (n : ℕ) → range_with_len 0 (suc n) ≡ range_with_len 0 n ++ n ∷ []
one_more n =
    ap (range_with_len 0) (sym (add-one n))
    ∙ sym (map-id (range_with_len 0 (n + 1)))
    ∙ map-range_with_len_more (λ k. k) 0 n n (omega arith)
    ∙ ap (λ xs. xs ++ n ∷ []) (map-id (range_with_len 0 n))

-- the numbers that pass are the members
pub filter_members : (n : ℕ) (s : Set) → filter s (range_with_len 0 n) ≡ members n s
filter_members zero s = refl
filter_members (suc n) s =
    ap (filter s) (one_more n)
    ∙ filter-append s (range_with_len 0 n) (n ∷ [])
    ∙ ap (λ xs. xs ++ cond (s n) (n ∷ []) []) (filter_members n s)

-- how many pass is the tally
pub length_tally : (n : ℕ) (s : Set) → length (filter s (range_with_len 0 n)) ≡ tally n s
length_tally n s = ap length (filter_members n s) ∙ length_members n s

-- all pass when the test holds of every number below n
pub list_all_below : (n : ℕ) (s : Set) → list_all s (range_with_len 0 n) ≡ all_below n s
list_all_below zero s = refl
list_all_below (suc n) s =
    ap (list_all s) (one_more n)
    ∙ list_all-append s (range_with_len 0 n) (n ∷ [])
    ∙ ap (λ b. list_all s (range_with_len 0 n) && b) (and-true (s n))
    ∙ ap (λ b. b && s n) (list_all_below n s)

-- a range from 0 on gives the numbers below its end
pub numbers_below : {s : _} (n : ℕ) → ◌≡◌ {A = Range ℕ} s (record { start = 0; end = n }) → YieldsList nat_range_steps (λ x. x) s (range_with_len 0 n)
numbers_below n e = YieldsList-from_range 0 n n e (omega arith)
