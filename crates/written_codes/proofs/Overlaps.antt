-- Overlaps that a flag tells, and what they say of lists. Assumes nothing.
use Rattle.std.proofs.Common.{◌≡◌, ℕ, ◌<◌, Bool, true, false, not, ◌&&◌, List, [], ◌∷◌, length, map, sym, refl, ap, ◌∙◌, ap₂, arith}
use Rattle.std.specs.List.{fold}
use Rattle.std.proofs.lemmas.Bool.{lt-ltb}
use Rattle.patterns.specs.Sets.{Set, ◌⊕◌, has, parity, members, all_below}
use Rattle.patterns.proofs.Sums.{plus_zero, plus_assoc}
use Rattle.patterns.proofs.Lists.{has_members, members_within, parity_same, all_below_at, all_below_from}
use Rattle.matrices.specs.Relations.{listed, tabled}
use Rattle.matrices.specs.Rows.{entry}
use Rattle.matrices.proofs.Tables.{length_tabled, listed_tabled}
use Rattle.written_codes.specs.Listing.{all_even}
use Rattle.written_codes.specs.Writing.{shares_even}

-- the flag that each place with an item of the set turns tells the parity, over the flag at the start
turned : (s : Set) (xs : List ℕ) (even : Bool) → fold ◌⊕◌ even (map s xs) ≡ (even ⊕ parity s xs)
turned s [] even = sym (plus_zero even)
turned s (x ∷ xs) even = turned s xs (even ⊕ s x) ∙ plus_assoc even (s x) (parity s xs)

-- from a flag that says even: whether the number of these places is
pub even_turned : (s : Set) (xs : List ℕ) → fold ◌⊕◌ true (map s xs) ≡ not (parity s xs)
even_turned s xs = turned s xs true ∙ opposite (parity s xs)
  where
    opposite : (p : Bool) → (true ⊕ p) ≡ not p
    opposite true = refl
    opposite false = refl

-- even overlaps of rows are even overlaps of their lists
pub even_tabled : (n m k : ℕ) (checks generators : List ℕ)
    → all_below m (λ u. all_below k (shares_even n checks generators u)) ≡ true
    → all_even (tabled m n (entry n checks)) (tabled k n (entry n generators)) ≡ true
even_tabled n m k checks generators h =
    let cs = tabled m n (entry n checks) in
    let gs = tabled k n (entry n generators) in
    all_below_from (length cs) (λ u. all_below (length gs) (λ g. not (parity (has (listed gs g)) (listed cs u))))
    (λ u hu.
    all_below_from (length gs) (λ g. not (parity (has (listed gs g)) (listed cs u)))
    (λ g hg.
    let hu' : u < m = omega (arith, length_tabled m n (entry n checks)) in
    let hg' : g < k = omega (arith, length_tabled k n (entry n generators)) in
    let row = members n (entry n checks u) in
    ap not (ap₂ (λ x y. parity (has x) y) (listed_tabled k n (entry n generators) g hg') (listed_tabled m n (entry n checks) u hu')
    ∙ parity_same (has (members n (entry n generators g))) (entry n generators g) row
    (λ v on. has_members n (entry n generators g) v ∙ ap (λ b. b && entry n generators g v) (lt-ltb v n (members_within n (entry n checks u) v on))))
    ∙ all_below_at k (shares_even n checks generators u) (all_below_at m (λ u. all_below k (shares_even n checks generators u)) h u hu') g hg'))
