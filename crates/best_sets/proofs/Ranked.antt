-- What beats what among sets is an order. Assumes nothing.
use Rattle.std.proofs.Common.{◌≡◌, ℕ, ◌<◌, ◌≤◌, Bool, true, false, ◌&&◌, ◌||◌, eqb, ltb, ◌⊎◌, List, [], ◌∷◌, length, sym, refl, ap, ◌∙◌, ap₂, inl, inr, ⊎_elim, arith}
use Rattle.std.specs.Cmp.{IsStrictWeakOrder}
use Rattle.std.proofs.lemmas.Bool.{lt-ltb, le-ltb, eq-eqb, ne_eqb, cases_lt, cases_order, both_ways}
use Rattle.best_sets.specs.Best.{sooner, beats}

-- ---- comparisons that look at two numbers first

-- by two numbers, and by r where they are equal
abbrev by_first : ℕ → ℕ → Bool → Bool
by_first a b r = ltb a b || (eqb a b && r)

-- the smaller number decides
by_first_lt : (a b : ℕ) (r : Bool) → a < b → by_first a b r ≡ true
by_first_lt a b r h = ap (λ t. t || (eqb a b && r)) (lt-ltb a b h)

-- and so does the greater
by_first_gt : (a b : ℕ) (r : Bool) → b < a → by_first a b r ≡ false
by_first_gt a b r h = ap₂ (λ s t. s || (t && r)) (le-ltb a b (omega arith)) (ne_eqb a b (λ e. omega arith))

-- equal numbers leave it to r
by_first_eq : (a b : ℕ) (r : Bool) → a ≡ b → by_first a b r ≡ r
by_first_eq a b r h = ap₂ (λ s t. s || (t && r)) (le-ltb a b (omega arith)) (eq-eqb a b h)

-- why it holds
by_first_true : (a b : ℕ) (r : Bool) → by_first a b r ≡ true → (a < b) ⊎ ((a ≡ b) × (r ≡ true))
by_first_true a b r h = ⊎_elim (λ e. inr (e, sym (by_first_eq a b r e) ∙ h)) (⊎_elim (λ l. inl l) (λ g. absurd (both_ways (by_first a b r) (by_first_gt a b r g) h))) (cases_order a b)

-- why it does not
by_first_false : (a b : ℕ) (r : Bool) → by_first a b r ≡ false → (b < a) ⊎ ((a ≡ b) × (r ≡ false))
by_first_false a b r h = ⊎_elim (λ e. inr (e, sym (by_first_eq a b r e) ∙ h)) (⊎_elim (λ l. absurd (both_ways (by_first a b r) h (by_first_lt a b r l))) (λ g. inl g)) (cases_order a b)

-- it does not hold both ways round
by_first_one_way : (a b : ℕ) (r s : Bool) → (r ≡ true → s ≡ false) → by_first a b r ≡ true → by_first b a s ≡ false
by_first_one_way a b r s f h = ⊎_elim (λ l. by_first_gt b a s l) (λ e. by_first_eq b a s (sym e.0) ∙ f e.1) (by_first_true a b r h)

-- where it fails twice in a row, it fails from end to end
by_first_chain : (a b c : ℕ) (r s t : Bool) → (r ≡ false → s ≡ false → t ≡ false) → by_first a b r ≡ false → by_first b c s ≡ false → by_first a c t ≡ false
by_first_chain a b c r s t f h k =
    ⊎_elim
    (λ (g : b < a). ⊎_elim (λ (l : c < b). by_first_gt a c t (omega arith)) (λ e. let q = e.0 in by_first_gt a c t (omega arith)) (by_first_false b c s k))
    (λ d. let p = d.0 in ⊎_elim (λ (l : c < b). by_first_gt a c t (omega arith)) (λ e. by_first_eq a c t (p ∙ e.0) ∙ f d.1 e.1) (by_first_false b c s k))
    (by_first_false a b r h)

-- ---- sets

-- of two lists, at most one is the sooner
sooner_one_way : (x y : List ℕ) → sooner x y ≡ true → sooner y x ≡ false
sooner_one_way [] y h = absurd (both_ways false refl h)
sooner_one_way (x ∷ xs) [] h = refl
sooner_one_way (x ∷ xs) (y ∷ ys) h = by_first_one_way x y (sooner xs ys) (sooner ys xs) (sooner_one_way xs ys) h

-- a list that is not sooner than a second, which is not sooner than a third, is not sooner than the third
sooner_chain : (x y z : List ℕ) → sooner x y ≡ false → sooner y z ≡ false → sooner x z ≡ false
sooner_chain [] y z h k = refl
sooner_chain (x ∷ xs) [] z h k = absurd (both_ways true h refl)
sooner_chain (x ∷ xs) (y ∷ ys) [] h k = absurd (both_ways true k refl)
sooner_chain (x ∷ xs) (y ∷ ys) (z ∷ zs) h k = by_first_chain x y z (sooner xs ys) (sooner ys zs) (sooner xs zs) (sooner_chain xs ys zs) h k

-- what beats what is an order, whatever the weights are
pub ranks : (w : List ℕ → ℕ) → IsStrictWeakOrder (beats w)
ranks w = record {
  one_way = λ x y h.
      by_first_one_way (w x) (w y) (by_first (length x) (length y) (sooner x y)) (by_first (length y) (length x) (sooner y x))
      (by_first_one_way (length x) (length y) (sooner x y) (sooner y x) (sooner_one_way x y)) h;
  chain = λ x y z h k.
      by_first_chain (w x) (w y) (w z) (by_first (length x) (length y) (sooner x y)) (by_first (length y) (length z) (sooner y z)) (by_first (length x) (length z) (sooner x z))
      (by_first_chain (length x) (length y) (length z) (sooner x y) (sooner y z) (sooner x z) (sooner_chain x y z)) h k;
}

-- a set that does not beat another leaves no less
pub no_less : (w : List ℕ → ℕ) (t s : List ℕ) → beats w t s ≡ false → w s ≤ w t
no_less w t s h =
    ⊎_elim
    (λ (l : w t < w s). absurd (both_ways (beats w t s) h (by_first_lt (w t) (w s) (by_first (length t) (length s) (sooner t s)) l)))
    (λ g. g)
    (cases_lt (w t) (w s))
