-- The lowest number of a set, found one number after another. Assumes nothing.
use Rattle.std.proofs.Common.{◌≡◌, ℕ, zero, suc, ◌+◌, ◌-◌, ◌<◌, ◌≤◌, min, Bool, true, false, List, [], ◌∷◌, length, get_or, is_some, Some, None, Option, sym, refl, ap, ◌∙◌, subst, ⊎_elim, arith}
use Rattle.std.proofs.iter.Yields.{nat_range_steps}
use Rattle.std.proofs.iter.runs.Sources.{range_runs}
use Rattle.std.proofs.lemmas.Iterator.{YieldsList, YieldsList-from_range, cases_from_any, first_from_Range}
use Rattle.std.proofs.lemmas.Iterator.Adapters.{option_map_id}
use Rattle.std.proofs.lemmas.List.FromFn.{length-range_with_len, get_or-range_with_len}
use Rattle.std.specs.Bool.{⊤, MatchBool, IsTrue}
use Rattle.std.specs.Fn.{Called, CalledAt}
use Rattle.std.specs.Iterator.{FindsItem, ChecksAny}
use Rattle.std.specs.Iterator.Runs.{Run, SomeRun, ItemsCountUp, CallKeepsClosure, AllItemsGive, IsFirstToGive}
use Rattle.std.specs.List.{range_with_len, fold, reduce, HoldsAt, AllWithin}
use Rattle.std.specs.Option.{option_map, MatchOption, IfSome, IsSomeAnd, unwrap_or}
use Rattle.std.specs.declared.ops.Range.{Range}
use denote.Param.Members.{Mut}
use denote.Ref.{Bor}
use Rattle.std.proofs.lemmas.Bool.{cases_lt, cond-true}
use Rattle.patterns.specs.Sets.{Set}
use Rattle.jobs.proofs.Picks.{none_is, lowest_none, none_below, found_below}
use Rattle.jobs.specs.Choosing.{or_at, lowest, some_below, least}

module _ (s : Set) where
  -- none below k, but k
  pub lowest_is : (k n : ℕ) → lowest k s ≡ None → true ≡ s k → k < n → Some k ≡ lowest n s
  lowest_is k zero none on h = absurd (omega arith)
  lowest_is k (suc n) none on h =
      ⊎_elim
      (λ below. ap (λ o. or_at o s n) (lowest_is k n none on below))
      (λ past.
      let here : n ≡ k = omega arith in
      sym (ap (λ i. or_at (lowest i s) s i) here ∙ ap (λ o. or_at o s k) none ∙ cond-true (s k) (Some k) None (sym on)))
      (cases_lt k n)

-- ---- calls at the numbers of a range, one after another

module _ (s : Set) where
  -- none below k, and none from k on below n
  none_up_to : (k n : ℕ) → lowest k s ≡ None → ((j : ℕ) → k ≤ j → j < n → false ≡ s j) → lowest n s ≡ None
  none_up_to k n none off =
      none_is (lowest n s)
      (none_below n s
      (λ j l. ⊎_elim
      (λ low. lowest_none k s (ap is_some none) j low)
      (λ high. sym (off j high l))
      (cases_lt j k)))

  lowest_of_find : (k n : ℕ) (r : Option ℕ) → lowest k s ≡ None
      → MatchOption r ((j : ℕ) → k ≤ j → j < n → false ≡ s j) (λ i. (k ≤ i) × (i < n) × (true ≡ s i) × ((j : ℕ) → k ≤ j → j < i → false ≡ s j))
      → r ≡ lowest n s
  lowest_of_find k n None none h = sym (none_up_to k n none h)
  lowest_of_find k n (Some i) none h = lowest_is s i n (none_up_to k i none h.3) h.2 h.1

  -- what `find` answers
  pub lowest_found : {F : Type 0} {g : Mut F (Bor ℕ × Unit {0}) Bool} (n : ℕ) (at u : Range ℕ) (f : F) (r : Option ℕ) → FindsItem nat_range_steps g at f r u
      → n ≡ at.end → lowest at.start s ≡ None → ((x : ℕ) (b : Bool) (q : F) → CalledAt g f x b q → (q ≡ f) × (b ≡ s x))
      → r ≡ lowest n s
  lowest_found n at u f r ran end none calls =
      lowest_of_find at.start at.end r none (first_from_Range at u f r (λ x. true ≡ s x) (λ x. false ≡ s x) ran (λ x q k. (calls x true q k).1) (λ x q k. calls x false q k))
      ∙ ap (λ k. lowest k s) (sym end)

  some_of_any : (n : ℕ) (r : Bool)
      → MatchBool r ((k : ℕ) × (k < length (range_with_len 0 n)) × HoldsAt (λ x. true ≡ s x) (range_with_len 0 n) k) (AllWithin (λ x. false ≡ s x) (range_with_len 0 n) 0 (length (range_with_len 0 n)))
      → r ≡ some_below n s
  some_of_any n true h =
      let below : h.0 < n = omega (arith, h.1, length-range_with_len 0 n) in
      let at : get_or (range_with_len 0 n) h.0 0 ≡ h.0 = omega (arith, get_or-range_with_len 0 n h.0 0 below) in
      sym (found_below n s h.0 below (ap s (sym at) ∙ sym (h.2 0)))
  some_of_any n false h =
      sym
      (none_below n s
      (λ j l.
      let at : get_or (range_with_len 0 n) j 0 ≡ j = omega (arith, get_or-range_with_len 0 n j 0 l) in
      ap s (sym at) ∙ sym (h j 0 (omega arith) (omega (arith, length-range_with_len 0 n)))))

  -- what `any` answers
  pub some_found : {F : Type 0} {g : Mut F (ℕ × Unit {0}) Bool} (n : ℕ) (at u : Range ℕ) (f : F) (r : Bool) → ChecksAny nat_range_steps g at f r u
      → at.start ≡ 0 → n ≡ at.end → ((x : ℕ) (b : Bool) (q : F) → Called g f (x, tt) b q → (q ≡ f) × (b ≡ s x))
      → r ≡ some_below n s
  some_found n at u f r ran start end calls =
      let road : YieldsList nat_range_steps (λ x. x) at (range_with_len 0 n) = YieldsList-from_range 0 n n (λ i. record { start = start i; end = sym end i }) (omega arith) in
      some_of_any n r
      (cases_from_any u f r (λ x. true ≡ s x) (λ x. false ≡ s x) ran road (λ x q k. (calls x true q k).1) (λ x q k. calls x false q k))

  -- what `find_map` answers, where what the closure makes of a number tells the number
  pub lowest_mapped : {F B : Type 0} {g : Mut F (ℕ × Unit {0}) (Option B)} (told : B → ℕ) (n : ℕ) (at : Range ℕ) (f : F) (r : Option B)
      → SomeRun nat_range_steps at (λ p. MatchOption r (IsTrue p.whole × AllItemsGive p g f None) (λ y. (i : ℕ) × (i < p.len) × (p.len ≡ i + 1) × IsFirstToGive p g f (Some y) None i))
      → n ≡ at.end → lowest at.start s ≡ None → ((x : ℕ) (o : Option B) (q : F) → Called g f (x, tt) o q → (q ≡ f) × (is_some o ≡ s x) × IfSome o (λ y. told y ≡ x))
      → option_map told r ≡ lowest n s
  lowest_mapped {F} {B} {g} told n at f r ran end none calls = by r ran.2
    where
      p : Run nat_range_steps
      p = ran.0

      up : ItemsCountUp p at.start at.end
      up = subst (λ (x : Range ℕ). ItemsCountUp p x.start x.end) ran.1 (range_runs p p.seen)

      steady : CallKeepsClosure g f
      steady a o q k = (calls a.0 o q k).0

      at_place : (j : ℕ) → j < p.len → p.at j ≡ Some (at.start + j)
      at_place j l = sym (option_map_id (p.at j)) ∙ up.3 j l

      -- the answer to the number j, where the item at its place was answered so
      answered : (o : Option B) (j : ℕ) → at.start ≤ j → j - at.start < p.len → MatchOption (p.at (j - at.start)) ⊤ (λ x. Called g f (x, tt) o f) → Called g f (j, tt) o f
      answered o j low l h =
          let here : at.start + (j - at.start) ≡ j = omega arith in
          subst (λ q. MatchOption q ⊤ (λ x. Called g f (x, tt) o f)) (at_place (j - at.start) l ∙ ap Some here) h

      there : (o : Option B) (q : Option ℕ) → IsSomeAnd q (λ x. Called g f (x, tt) o f) → MatchOption q ⊤ (λ x. Called g f (x, tt) o f)
      there o None h = absurd h
      there o (Some x) h = h

      by : (r : Option B) → MatchOption r (IsTrue p.whole × AllItemsGive p g f None) (λ y. (i : ℕ) × (i < p.len) × (p.len ≡ i + 1) × IsFirstToGive p g f (Some y) None i) → option_map told r ≡ lowest n s
      by None h =
          let long = up.1 h.0 in
          sym (none_up_to at.start n none (λ j low l. (calls j None f (answered None j low (omega (arith, long, end)) (h.1 steady (j - at.start)))).1))
      by (Some y) h =
          let i : ℕ = at.start + h.0 in
          let place : i - at.start ≡ h.0 = omega arith in
          let first = h.3 steady in
          let hit = calls i (Some y) f (answered (Some y) i (omega arith) (omega (arith, h.1, place)) (there (Some y) (p.at (i - at.start)) (subst (λ x. IsSomeAnd (p.at x) (λ x. Called g f (x, tt) (Some y) f)) (sym place) first.0))) in
          let below = none_up_to at.start i none
          (λ j low l. (calls j None f (answered None j low (omega (arith, h.1)) (there None (p.at (j - at.start)) (first.1 (j - at.start) (omega arith))))).1) in
          ap Some hit.2 ∙ lowest_is s i n below hit.1 (omega (arith, h.1, up.0, end))

-- ---- the least number of a list

-- the two first as one
least_joined : (x y : ℕ) (ys : List ℕ) → least (x ∷ y ∷ ys) ≡ least (min x y ∷ ys)
least_joined x y [] = refl
least_joined x y (z ∷ zs) = omega arith

-- a fold by `min` gives the least
pub least_folded : (x : ℕ) (xs : List ℕ) → fold min x xs ≡ least (x ∷ xs)
least_folded x [] = refl
least_folded x (y ∷ ys) = least_folded (min x y) ys ∙ sym (least_joined x y ys)

-- and so does a list reduced by it
pub least_reduced : (xs : List ℕ) → unwrap_or (reduce min xs) 0 ≡ least xs
least_reduced [] = refl
least_reduced (x ∷ xs) = least_folded x xs
