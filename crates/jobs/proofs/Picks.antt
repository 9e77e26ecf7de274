-- What is chosen from lists and numbers. Assumes nothing.
use Rattle.std.proofs.Common.{◌≡◌, ℕ, zero, suc, ◌<◌, min, Bool, true, false, cond, ◌&&◌, eqb, ◌⊎◌, List, [], ◌∷◌, is_some, Some, None, filter, Option, sym, refl, ap, ◌∙◌, subst, inl, inr, ⊎_elim, arith}
use mathlib.Core.Bool.{or-false}
use Rattle.std.specs.Option.{option_map}
use Rattle.std.proofs.lemmas.Bool.{cases_Bool, cases_lt, cases_eq, eq-eqb, or_right, both_ways, and_parts}
use Rattle.patterns.specs.Sets.{Set, Inside, has}
use Rattle.patterns.proofs.Lists.{has_here}
use Rattle.codes.specs.Layouts.{Layout}
use Rattle.scans.specs.Scans.{is_empty, meeting}
use Rattle.moves.proofs.Peels.{has_kept}
use Rattle.jobs.specs.Choosing.{or_else, or_at, lowest, some_below, least}

-- ---- options

pub some_is : {X : Type 0} (o : Option X) → is_some o ≡ true → (x : X) × (o ≡ Some x)
some_is None e = absurd (both_ways false refl e)
some_is (Some x) e = (x, refl)

pub none_is : {X : Type 0} (o : Option X) → is_some o ≡ false → o ≡ None
none_is None e = refl
none_is (Some x) e = absurd (both_ways true e refl)

pub or_else_some : {X : Type 0} (o p : Option X) (x : X) → or_else o p ≡ Some x → (o ≡ Some x) ⊎ (p ≡ Some x)
or_else_some None p x e = inr e
or_else_some (Some y) p x e = inl e

pub or_else_none : {X : Type 0} (o p : Option X) → or_else o p ≡ None → (o ≡ None) × (p ≡ None)
or_else_none None p e = (refl, e)
or_else_none (Some y) p e = absurd (cc)

pub mapped_some : {X Y : Type 0} (f : X → Y) (o : Option X) (y : Y) → option_map f o ≡ Some y → (x : X) × (o ≡ Some x) × (f x ≡ y)
mapped_some f None y e = absurd (cc)
mapped_some f (Some x) y e = (x, refl, cc)

-- ---- the lowest, and the least

pub lowest_some : (n : ℕ) (s : Set) (k : ℕ) → lowest n s ≡ Some k → (k < n) × (s k ≡ true)
lowest_some zero s k e = absurd (cc)
lowest_some (suc n) s k e = part (lowest n s) (lowest_some n s k) refl e
  where
    here : (b : Bool) → s n ≡ b → cond b (Some n) None ≡ Some k → (k < suc n) × (s k ≡ true)
    here true q e = let same : n ≡ k = cc in (omega arith, ap s (sym same) ∙ q)
    here false q e = absurd (cc)

    part : (o : Option ℕ) → (lowest n s ≡ Some k → (k < n) × (s k ≡ true)) → lowest n s ≡ o → or_at o s n ≡ Some k → (k < suc n) × (s k ≡ true)
    part (Some j) known q e = let r = known (q ∙ e) in (omega (arith, r.0), r.1)
    part None known q e = here (s n) refl e

pub lowest_none : (n : ℕ) (s : Set) → is_some (lowest n s) ≡ false → (k : ℕ) → k < n → s k ≡ false
lowest_none zero s e k h = absurd (omega arith)
lowest_none (suc n) s e k h = part (lowest n s) (λ q. lowest_none n s q k) refl e
  where
    here : (k < n → s k ≡ false) → (b : Bool) → s n ≡ b → is_some (cond b (Some n) None) ≡ false → s k ≡ false
    here known true q e = absurd (both_ways true e refl)
    here known false q e = ⊎_elim (λ i. ap s i ∙ q) (λ d. known (omega arith)) (cases_eq k n)

    part : (o : Option ℕ) → (is_some (lowest n s) ≡ false → k < n → s k ≡ false) → lowest n s ≡ o → is_some (or_at o s n) ≡ false → s k ≡ false
    part (Some j) known q e = absurd (both_ways true e refl)
    part None known q e = here (known (ap is_some q)) (s n) refl e

-- where no number passes there is no lowest
pub none_below : (n : ℕ) (s : Set) → ((k : ℕ) → k < n → s k ≡ false) → is_some (lowest n s) ≡ false
none_below zero s h = refl
none_below (suc n) s h = ap is_some (ap (λ o. or_at o s n) (none_is (lowest n s) (none_below n s (λ k l. h k (omega arith)))) ∙ ap (λ b. cond b (Some n) None) (h n (omega arith)))

-- a number that passes is found
pub found_below : (n : ℕ) (s : Set) (k : ℕ) → k < n → s k ≡ true → some_below n s ≡ true
found_below n s k h on = ⊎_elim (λ e. e) (λ e. absurd (both_ways (s k) (lowest_none n s e k h) on)) (cases_Bool (some_below n s))

pub least_in : (v : ℕ) (vs : List ℕ) → has (v ∷ vs) (least (v ∷ vs)) ≡ true
least_in v [] = has_here v []
least_in v (y ∷ ys) =
    let l : ℕ = least (y ∷ ys) in
    let P : ℕ → Type 0 = λ x. has (v ∷ y ∷ ys) x ≡ true in
    ⊎_elim
    (λ h. let is : min v l ≡ v = omega arith in subst P (sym is) (has_here v (y ∷ ys)))
    (λ h. let is : min v l ≡ l = omega arith in subst P (sym is) (or_right (eqb v l) (has (y ∷ ys) l) (least_in y ys)))
    (cases_lt v l)

-- ---- what a filter keeps

-- a narrower filter after a wider one
pub kept_kept : (s t : Set) → ((k : ℕ) → t k ≡ true → s k ≡ true) → (xs : List ℕ) → filter t xs ≡ filter t (filter s xs)
kept_kept s t h [] = refl
kept_kept s t h (x ∷ xs) = part (s x) (t x) refl (h x) (kept_kept s t h xs)
  where
    tail : (b : Bool) → t x ≡ b → filter t (x ∷ filter s xs) ≡ cond b (x ∷ filter t (filter s xs)) (filter t (filter s xs))
    tail b e = ap (λ c. cond c (x ∷ filter t (filter s xs)) (filter t (filter s xs))) e

    part : (a b : Bool) → t x ≡ b → (b ≡ true → a ≡ true) → filter t xs ≡ filter t (filter s xs) → cond b (x ∷ filter t xs) (filter t xs) ≡ filter t (cond a (x ∷ filter s xs) (filter s xs))
    part true true e k rest = ap (λ l. x ∷ l) rest ∙ sym (tail true e)
    part true false e k rest = rest ∙ sym (tail false e)
    part false true e k rest = absurd (both_ways false refl (k refl))
    part false false e k rest = rest

pub empty_is : (xs : List ℕ) → is_empty xs ≡ true → xs ≡ []
empty_is [] e = refl
empty_is (x ∷ xs) e = absurd (both_ways false refl e)

-- a list that is not empty has a number
pub some_in : (xs : List ℕ) → is_empty xs ≡ false → (k : ℕ) × (has xs k ≡ true)
some_in [] e = absurd (both_ways true e refl)
some_in (x ∷ xs) e = (x, has_here x xs)

-- ---- the one qubit in which a check meets a set

module _ (c : Layout) (s : Set) (u v : ℕ) (only : meeting c s u ≡ v ∷ []) where
  pub in_check : (w : ℕ) → (has (c.of_check u) w && s w) ≡ eqb v w
  in_check w = sym (has_kept s (c.of_check u) w) ∙ ap (λ l. has l w) only ∙ or-false (eqb v w)

  pub at_one : (has (c.of_check u) v ≡ true) × (s v ≡ true)
  at_one = and_parts (has (c.of_check u) v) (s v) (in_check v ∙ eq-eqb v v refl)

  -- that qubit alone is inside the set
  pub one_inside : Inside (has (v ∷ [])) s
  one_inside w h = (and_parts (has (c.of_check u) w) (s w) (in_check w ∙ sym (or-false (eqb v w)) ∙ h)).1
