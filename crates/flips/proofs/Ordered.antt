-- Lists that rise. Assumes nothing.
use Rattle.std.proofs.Common.{◌≡◌, ℕ, zero, suc, ◌+◌, ◌<◌, ◌≤◌, Bool, true, false, cond, ◌&&◌, ◌||◌, eqb, ltb, ◌⊎◌, List, [], ◌∷◌, ◌++◌, length, filter, get_or, sym, refl, ap, ◌∙◌, subst, ap₂, inl, inr, ⊎_elim, append-nil, arith}
use Rattle.std.specs.List.{All, count_by}
use Rattle.std.specs.List.Sorted.{IsPermutation, IsNonDecreasing}
use Rattle.std.proofs.lemmas.List.Sorted.{sum_by-IsPermutation}
use Rattle.std.proofs.lemmas.List.Sums.{sum_by-cons}
use Rattle.std.proofs.lemmas.List.Elements.{All-nil, All-cons, All-head, All-tail, All-push, All-weaker, All-append, All-from_get_or}
use Rattle.std.proofs.lemmas.Bool.{eq-eqb, lt-ltb, le-ltb, ne_eqb, eqb-true, ltb-true, ltb-false, cases_eq, cases_lt, both_ways, or_cases, and_right}
use Rattle.codes.specs.Layouts.{Layout, Sound}
use Rattle.patterns.specs.Sets.{Set, has, Apart, members}
use Rattle.patterns.proofs.Lists.{has_here, has_members}
use Rattle.flips.proofs.Gathered.{has_get_d}
use Rattle.best_sets.specs.Rising.{Rising}
use Rattle.flips.specs.Flips.{open_in}

pub above_none : (x : ℕ) (s : List ℕ) → All (λ y. x < y) s → has s x ≡ false
above_none x [] h = refl
above_none x (y ∷ s) h = let k = All-head (λ z. x < z) y s h in ap₂ ◌||◌ (ne_eqb y x (λ e. omega arith)) (above_none x s (All-tail (λ z. x < z) y s h))

below_all : (x : ℕ) (s : List ℕ) (w : ℕ) → All (λ y. x < y) s → has s w ≡ true → x < w
below_all x [] w h k = absurd (both_ways false refl k)
below_all x (y ∷ s) w h k = let q = All-head (λ z. x < z) y s h in ⊎_elim (λ e. let z = eqb-true y w e in omega arith) (λ e. below_all x s w (All-tail (λ z. x < z) y s h) e) (or_cases (eqb y w) (has s w) k)

pub rising_unique : (xs ys : List ℕ) → Rising xs → Rising ys → ((w : ℕ) → has xs w ≡ has ys w) → xs ≡ ys
rising_unique [] [] h k e = refl
rising_unique [] (y ∷ ys) h k e = absurd (both_ways (has (y ∷ ys) y) (sym (e y)) (has_here y ys))
rising_unique (x ∷ xs) [] h k e = absurd (both_ways (has (x ∷ xs) x) (e x) (has_here x xs))
rising_unique (x ∷ xs) (y ∷ ys) h k e =
    let up : y ≤ x = ⊎_elim (λ z. let q = eqb-true y x z in omega arith) (λ z. let q = below_all y ys x k.0 z in omega arith) (or_cases (eqb y x) (has ys x) (sym (e x) ∙ has_here x xs)) in
    let down : x ≤ y = ⊎_elim (λ z. let q = eqb-true x y z in omega arith) (λ z. let q = below_all x xs y h.0 z in omega arith) (or_cases (eqb x y) (has xs y) (e y ∙ has_here y ys)) in
    let same : x ≡ y = omega arith in
    ap₂ ◌∷◌ same (rising_unique xs ys h.1 k.1 (λ w. tails w same (cases_eq x w)))
  where
    tails : (w : ℕ) → x ≡ y → (x ≡ w) ⊎ (x ≡ w → ⊥) → has xs w ≡ has ys w
    tails w same (inl z) = ap (has xs) (sym z) ∙ above_none x xs h.0 ∙ sym (above_none y ys k.0) ∙ ap (has ys) (sym same ∙ z)
    tails w same (inr z) = sym (ap (λ b. b || has xs w) (ne_eqb x w z)) ∙ e w ∙ ap (λ b. b || has ys w) (ne_eqb y w (λ q. z (same ∙ q)))

-- ---- the members of a set, in rising order

members_below : (n : ℕ) (s : Set) → All (λ y. y < n) (members n s)
members_below zero s = All-nil (λ y. y < 0)
members_below (suc n) s =
    All-append (λ y. y < suc n) (members n s) (cond (s n) (n ∷ []) []) (All-weaker (λ y. y < n) (λ y. y < suc n) (λ y k. omega arith) (members n s) (members_below n s)) (part (s n))
  where
    part : (b : Bool) → All (λ y. y < suc n) (cond b (n ∷ []) [])
    part true = All-cons (λ y. y < suc n) n [] (omega arith) (All-nil (λ y. y < suc n))
    part false = All-nil (λ y. y < suc n)

rises_append : (xs : List ℕ) (n : ℕ) → Rising xs → All (λ y. y < n) xs → Rising (xs ++ n ∷ [])
rises_append [] n h k = (All-nil (λ y. n < y), tt)
rises_append (x ∷ xs) n h k = (All-push (λ y. x < y) xs n h.0 (All-head (λ y. y < n) x xs k), rises_append xs n h.1 (All-tail (λ y. y < n) x xs k))

pub rises_members : (n : ℕ) (s : Set) → Rising (members n s)
rises_members zero s = tt
rises_members (suc n) s = part (s n) (rises_members n s)
  where
    part : (b : Bool) → Rising (members n s) → Rising (members n s ++ cond b (n ∷ []) [])
    part true h = rises_append (members n s) n h (members_below n s)
    part false h = subst Rising (sym (append-nil (members n s))) h

pub rises_open : (c : Layout) (s : Set) (g : ℕ) → Rising (open_in c s g)
rises_open c s g = rises_members c.qubits (λ v. has (c.of_generator g) v && s v)

pub open_within : (c : Layout) (s : Set) (g : ℕ) → All (λ v. v < c.qubits) (open_in c s g)
open_within c s g = members_below c.qubits (λ v. has (c.of_generator g) v && s v)

pub has_open : (c : Layout) → Sound c → (s : Set) (g : ℕ) → g < c.generators → (w : ℕ) → has (open_in c s g) w ≡ (s w && has (c.of_generator g) w)
has_open c sound s g h w = has_members c.qubits (λ v. has (c.of_generator g) v && s v) w ∙ part (has (c.of_generator g) w) (s w) refl
  where
    part : (a b : Bool) → has (c.of_generator g) w ≡ a → (ltb w c.qubits && (a && b)) ≡ (b && a)
    part true true e = ap (λ t. t && true) (lt-ltb w c.qubits (sound.by_generator.row_within g w h e))
    part true false e = and_right (ltb w c.qubits) false refl
    part false true e = and_right (ltb w c.qubits) false refl
    part false false e = and_right (ltb w c.qubits) false refl

-- ---- a sort of the open qubits

-- how often a number stands in a list
abbrev times : ℕ → List ℕ → ℕ
times w xs = count_by (λ x. eqb x w) xs

-- one number more at the front
times_more : (w x : ℕ) (xs : List ℕ) → times w (x ∷ xs) ≡ cond (eqb x w) 1 0 + times w xs
times_more w x xs = sum_by-cons (λ y. cond (eqb y w) 1 0) x xs

-- a list has what stands in it at least once
times_has : (w : ℕ) (xs : List ℕ) → has xs w ≡ ltb 0 (times w xs)
times_has w [] = sym (le-ltb 0 0 (omega arith))
times_has w (x ∷ xs) = part (eqb x w) (times_has w xs) ∙ ap (ltb 0) (sym (times_more w x xs))
  where
    part : (b : Bool) → has xs w ≡ ltb 0 (times w xs) → (b || has xs w) ≡ ltb 0 (cond b 1 0 + times w xs)
    part true e = sym (lt-ltb 0 (1 + times w xs) (omega arith))
    part false e = e ∙ ap (ltb 0) (let z : times w xs ≡ 0 + times w xs = omega arith in z)

-- in a list without repeats nothing stands twice
times_apart : (w : ℕ) (xs : List ℕ) → Apart xs → times w xs ≤ 1
times_apart w [] a = omega arith
times_apart w (x ∷ xs) a = part (eqb x w) refl (times_apart w xs a.1)
  where
    part : (b : Bool) → eqb x w ≡ b → times w xs ≤ 1 → times w (x ∷ xs) ≤ 1
    part true e le =
        let none : times w xs ≤ 0 = ltb-false 0 (times w xs) (sym (times_has w xs) ∙ ap (has xs) (sym (eqb-true x w e)) ∙ a.0) in
        omega (arith, times_more w x xs, ap {B = ℕ} (λ b. cond b 1 0) e, none)
    part false e le = omega (arith, times_more w x xs, ap {B = ℕ} (λ b. cond b 1 0) e)

-- what a test keeps of a list
has_filter : (s : Set) (xs : List ℕ) (w : ℕ) → has (filter s xs) w ≡ (s w && has xs w)
has_filter s [] w = sym (and_right (s w) false refl)
has_filter s (x ∷ xs) w = part (s x) refl (eqb x w) refl (s w) refl (has xs w) (has_filter s xs w)
  where
    part : (a : Bool) → s x ≡ a → (e : Bool) → eqb x w ≡ e → (b : Bool) → s w ≡ b → (t : Bool) → has (filter s xs) w ≡ (s w && t) → has (cond a (x ∷ filter s xs) (filter s xs)) w ≡ (b && (e || t))
    part true p true q true r t h = ap (λ z. z || has (filter s xs) w) q
    part true p true q false r t h = absurd (both_ways (s w) r (ap s (sym (eqb-true x w q)) ∙ p))
    part true p false q b r t h = ap (λ z. z || has (filter s xs) w) q ∙ h ∙ ap (λ z. z && t) r
    part false p true q true r t h = absurd (both_ways (s x) p (ap s (eqb-true x w q) ∙ r))
    part false p true q false r t h = h ∙ ap (λ z. z && t) r
    part false p false q b r t h = h ∙ ap (λ z. z && t) r

-- what a test keeps of a list without repeats has none
kept_apart : (s : Set) (xs : List ℕ) → Apart xs → Apart (filter s xs)
kept_apart s [] a = tt
kept_apart s (x ∷ xs) a = part (s x) (kept_apart s xs a.1)
  where
    part : (b : Bool) → Apart (filter s xs) → Apart (cond b (x ∷ filter s xs) (filter s xs))
    part true k = (has_filter s xs x ∙ and_right (s x) (has xs x) a.0, k)
    part false k = k

-- a list in order, where nothing stands twice, rises
rises_sorted : (xs : List ℕ) → IsNonDecreasing xs → ((w : ℕ) → times w xs ≤ 1) → Rising xs
rises_sorted [] up once = tt
rises_sorted (x ∷ xs) up once = (
  All-from_get_or (λ y. x < y) xs 0 (λ i h. above i h (cases_lt x (get_or xs i 0))),
  rises_sorted xs (λ i j d le lt. up (suc i) (suc j) d (omega arith) (omega arith)) (λ w. omega (arith, times_more w x xs, once w)),
)
  where
    above : (i : ℕ) → i < length xs → (x < get_or xs i 0) ⊎ (get_or xs i 0 ≤ x) → x < get_or xs i 0
    above i h (inl l) = l
    above i h (inr le) =
        let low : x ≤ get_or xs i 0 = up 0 (suc i) 0 (omega arith) (omega arith) in
        let same : get_or xs i 0 ≡ x = omega arith in
        let there : has xs x ≡ true = ap (has xs) (sym same) ∙ has_get_d xs i h in
        let twice : 0 < times x xs = ltb-true 0 (times x xs) (sym (times_has x xs) ∙ there) in
        absurd (omega (arith, times_more x x xs, ap {B = ℕ} (λ b. cond b 1 0) (eq-eqb x x refl), once x))

-- the open ones of a generator's qubits, once they are in order
pub open_sorted : (c : Layout) → Sound c → (s : Set) (g : ℕ) (xs : List ℕ) → g < c.generators → IsPermutation (filter s (c.of_generator g)) xs → IsNonDecreasing xs → xs ≡ open_in c s g
open_sorted c sound s g xs h moved up =
    let row = c.of_generator g in
    let same : (w : ℕ) → times w xs ≡ times w (filter s row) = λ w. sum_by-IsPermutation (λ y. cond (eqb y w) 1 0) (filter s row) xs moved in
    let once : (w : ℕ) → times w xs ≤ 1 = λ w. omega (arith, same w, times_apart w (filter s row) (kept_apart s row (sound.by_generator.row_apart g h))) in
    rising_unique xs (open_in c s g) (rises_sorted xs up once) (rises_open c s g)
    (λ w. times_has w xs ∙ ap (ltb 0) (same w) ∙ sym (times_has w (filter s row)) ∙ has_filter s row w ∙ sym (has_open c sound s g h w))
