-- The choice is the best of the sets: it is one of them, it lowers the weight, and no set beats it. Assumes nothing.
use Rattle.std.proofs.Common.{◌≡◌, ℕ, zero, suc, ◌<◌, ◌≤◌, Bool, true, false, cond, ltb, ◌⊎◌, List, [], ◌∷◌, length, get_or, Some, None, filter, Option, sym, refl, ap, ◌∙◌, subst, ap₂, inl, inr, ⊎_elim, arith}
use Rattle.std.specs.List.{Contains, best_of}
use Rattle.std.proofs.lemmas.List.MinMax.{IsFirstBest-from_best_of}
use Rattle.std.proofs.lemmas.List.Elements.{Contains-get_or, at_from_Contains}
use Rattle.std.proofs.lemmas.Bool.{ltb-true, ltb-false}
use Rattle.patterns.specs.Sets.{Set, has, Apart}
use Rattle.best_sets.specs.Best.{sets, beats, best_set, lowering, Chosen, BestIsUnbeaten}
use Rattle.best_sets.proofs.Ranked.{ranks}
use Rattle.best_sets.proofs.Kept.{kept_is_set, set_inside, set_apart, set_is_kept}
pub use Rattle.best_sets.proofs.Ranked.{no_less}

-- ---- the best set

-- the best set is the empty one or one of the sets, and no set beats it
pub best_is : (w : List ℕ → ℕ) (xs : List ℕ) → ((best_set w xs ≡ []) ⊎ Contains (sets xs) (best_set w xs)) × ((t : List ℕ) → Contains (sets xs) t → beats w t (best_set w xs) ≡ false)
unfolding best_set
best_is w xs =
    let found = IsFirstBest-from_best_of (ranks w) [] (sets xs) in (
      placed found.0 found.1.0 found.2,
      λ t c. let at = at_from_Contains (sets xs) t c in ap₂ (beats w) (sym (at.2 [])) (sym found.2) ∙ found.1.1 (suc at.0) [] (let h = at.1 in omega arith),
    )
  where
    placed : (b : ℕ) → b < length ([] ∷ sets xs) → get_or ([] ∷ sets xs) b [] ≡ best_of (beats w) [] (sets xs) → (best_of (beats w) [] (sets xs) ≡ []) ⊎ Contains (sets xs) (best_of (beats w) [] (sets xs))
    placed zero h e = inl (sym e)
    placed (suc b) h e = inr (subst (Contains (sets xs)) e (Contains-get_or (sets xs) b [] (omega arith)))

-- ---- the choice

-- What is asked of a choice, over the sets as lists.
abbrev Lowers : (List ℕ → ℕ) → List ℕ → Option (List ℕ) → Type 0
Lowers w xs (Some f) = Contains (sets xs) f × (w f < w []) × ((t : List ℕ) → Contains (sets xs) t → beats w t f ≡ false)
Lowers w xs None = (t : List ℕ) → Contains (sets xs) t → w [] ≤ w t

-- the choice meets it
lowering_is : (w : List ℕ → ℕ) (xs : List ℕ) → Lowers w xs (lowering w xs)
unfolding lowering
lowering_is w xs = part (ltb (w (best_set w xs)) (w [])) refl
  where
    part : (o : Bool) → ltb (w (best_set w xs)) (w []) ≡ o → Lowers w xs (cond o (Some (best_set w xs)) None)
    part true e =
        let low = ltb-true (w (best_set w xs)) (w []) e in
        let law = best_is w xs in
        (⊎_elim (λ z. let q = ap w z in absurd (omega arith)) (λ h. h) law.0, low, law.1)
    part false e = λ t at.
        let high = ltb-false (w (best_set w xs)) (w []) e in
        let less = no_less w t (best_set w xs) ((best_is w xs).1 t at) in
        omega arith

-- the law of the best set
pub best_is_unbeaten : BestIsUnbeaten
best_is_unbeaten w xs apart = as_chosen (lowering w xs) (lowering_is w xs)
  where
    as_chosen : (o : Option (List ℕ)) → Lowers w xs o → Chosen w xs o
    as_chosen (Some f) h = ((has f, set_is_kept xs f apart h.0), h.1, λ s. h.2 (filter s xs) (kept_is_set s xs))
    as_chosen None h = λ s. h (filter s xs) (kept_is_set s xs)

-- ---- what a caller reads off the choice

module _ (w : List ℕ → ℕ) (xs f : List ℕ) (some : lowering w xs ≡ Some f) where
  -- it is what is asked
  chosen : Lowers w xs (Some f)
  chosen = subst (Lowers w xs) some (lowering_is w xs)

  -- its numbers are numbers of the list
  pub lowering_inside : (k : ℕ) → has f k ≡ true → has xs k ≡ true
  lowering_inside = set_inside xs f chosen.0

  -- it lowers the weight
  pub lowering_lowers : w f < w []
  lowering_lowers = chosen.1

  -- it has no repeats if the list has none
  pub lowering_apart : Apart xs → Apart f
  lowering_apart apart = set_apart xs f apart chosen.0

-- without a choice, no set lowers the weight
pub none_lowers : (w : List ℕ → ℕ) (xs : List ℕ) → lowering w xs ≡ None → (s : Set) → w [] ≤ w (filter s xs)
none_lowers w xs none s = subst (Lowers w xs) none (lowering_is w xs) (filter s xs) (kept_is_set s xs)
