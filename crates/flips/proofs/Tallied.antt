-- How many of some numbers are in a set: those of a list, and the others. Assumes nothing.
use Rattle.std.proofs.Common.{◌≡◌, ℕ, zero, suc, ◌+◌, ◌<◌, ◌≤◌, Bool, true, false, not, ◌&&◌, ◌||◌, eqb, List, [], ◌∷◌, length, sym, refl, ap, ◌∙◌, ap₂, ⊎_elim, arith}
use Rattle.std.specs.List.{All}
use Rattle.std.proofs.lemmas.List.Elements.{All-head, All-tail}
use Rattle.std.proofs.lemmas.Bool.{eq-eqb, ne_eqb, cases_eq, or_right, both_ways}
use Rattle.patterns.specs.Sets.{Set, has, Apart, tally}
use Rattle.patterns.proofs.Weighed.{tally_same, tally_none, tally_split}
use Rattle.flips.specs.Local.{at, one_if}

-- how many of the list are in p
abbrev pub counted : Set → List ℕ → ℕ
counted p [] = 0
counted p (d ∷ ds) = one_if (p d) + counted p ds

and_on : (b : Bool) → (b && true) ≡ b
and_on true = refl
and_on false = refl

and_off : (b : Bool) → (b && false) ≡ false
and_off true = refl
and_off false = refl

-- the first number, and the others
tally_front : (n : ℕ) (s : Set) → tally (suc n) s ≡ one_if (s 0) + tally n (λ k. s (suc k))
tally_front n s =
    let more : suc n ≡ n + 1 = omega arith in
    ap (λ m. tally m s) more
    ∙ tally_split 1 n s
    ∙ ap₂ ◌+◌ (plus_nothing (one_if (s 0))) (tally_same n (λ k. s (k + 1)) (λ k. s (suc k)) (λ k _. let e : k + 1 ≡ suc k = omega arith in ap s e))
  where
    plus_nothing : (x : ℕ) → x + 0 ≡ x
    plus_nothing x = omega arith

-- the places of a list
pub tally_at : (n : ℕ) (ds : List ℕ) (p : Set) → length ds ≤ n → tally n (at ds p) ≡ counted p ds
tally_at n [] p h = tally_none n (at [] p) (λ _ _. refl)
tally_at zero (d ∷ ds) p h = absurd (omega arith)
tally_at (suc n) (d ∷ ds) p h = tally_front n (at (d ∷ ds) p) ∙ ap (λ m. one_if (p d) + m) (tally_at n ds p (omega arith))

-- one number, and the others
without : (n d : ℕ) (s : Set) → d < n → tally n s ≡ one_if (s d) + tally n (λ u. s u && not (eqb d u))
without zero d s h = absurd (omega arith)
without (suc n) d s h =
    ⊎_elim
    (λ same.
    let here : one_if (s n && not (eqb d n)) ≡ 0 = ap one_if (ap (λ b. s n && not b) (eq-eqb d n same) ∙ and_off (s n)) in
    let there : one_if (s d) ≡ one_if (s n) = ap (λ k. one_if (s k)) same in
    let rest = tally_same n s (λ u. s u && not (eqb d u)) (λ k l. sym (ap (λ b. s k && not b) (ne_eqb d k (λ e. omega arith)) ∙ and_on (s k))) in
    omega (arith, here, there, rest))
    (λ other.
    let here : one_if (s n && not (eqb d n)) ≡ one_if (s n) = ap one_if (ap (λ b. s n && not b) (ne_eqb d n other) ∙ and_on (s n)) in
    let below : d < n = omega arith in
    omega (arith, here, without n d s below))
    (cases_eq d n)

pub counted_same : (s t : Set) (ds : List ℕ) → ((u : ℕ) → has ds u ≡ true → s u ≡ t u) → counted s ds ≡ counted t ds
counted_same s t [] h = refl
counted_same s t (d ∷ ds) h = ap₂ (λ b m. one_if b + m) (h d (ap (λ b. b || has ds d) (eq-eqb d d refl))) (counted_same s t ds (λ u k. h u (or_right (eqb d u) (has ds u) k)))

-- those of a list, and the others
pub within_and_off : (n : ℕ) (ds : List ℕ) (s : Set) → Apart ds → All (λ d. d < n) ds → tally n s ≡ tally n (λ u. s u && not (has ds u)) + counted s ds
within_and_off n [] s a h = omega (arith, tally_same n s (λ u. s u && not (has [] u)) (λ k l. sym (and_on (s k))))
within_and_off n (d ∷ ds) s a h =
    let t : Set = λ u. s u && not (eqb d u) in
    let rest = within_and_off n ds t a.1 (All-tail (λ x. x < n) d ds h) in
    let off = tally_same n (λ u. t u && not (has ds u)) (λ u. s u && not (has (d ∷ ds) u)) (λ k l. joined (s k) (eqb d k) (has ds k)) in
    let others = counted_same t s ds (λ u k. ap (λ b. s u && not b) (ne_eqb d u (λ e. both_ways (has ds u) (ap (has ds) (sym e) ∙ a.0) k)) ∙ and_on (s u)) in
    omega (arith, without n d s (All-head (λ x. x < n) d ds h), rest, off, others)
  where
    joined : (x y z : Bool) → ((x && not y) && not z) ≡ (x && not (y || z))
    joined true true z = refl
    joined true false z = refl
    joined false true z = refl
    joined false false z = refl
