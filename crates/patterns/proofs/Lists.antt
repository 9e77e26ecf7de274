-- Lists as sets, and sets as lists. Assumes nothing.
use Rattle.std.proofs.Common.{◌≡◌, ℕ, zero, suc, ◌+◌, ◌<◌, Bool, true, false, cond, ◌&&◌, ◌||◌, eqb, ltb, List, [], ◌∷◌, ◌++◌, map, filter, sym, refl, ap, ◌∙◌, ap₂, ⊎_elim, arith}
use Rattle.std.proofs.lemmas.Bool.{eqb-true, or_right, or_cases, both_ways, false_from_ne_true}
use Rattle.std.proofs.lemmas.Grind.{common_steps}
use Rattle.patterns.specs.Sets.{Set, ◌⊕◌, has, parity, Apart, members, all_below}

-- ---- what a list has

pub has_here : (x : ℕ) (xs : List ℕ) → has (x ∷ xs) x ≡ true
has_here x xs = grind (arith, common_steps)

pub has_append : (xs ys : List ℕ) (k : ℕ) → has (xs ++ ys) k ≡ (has xs k || has ys k)
has_append [] ys k = refl
has_append (x ∷ xs) ys k = grind (arith, common_steps, has_append xs ys k)

-- a new item in front changes it, and no other
pub has_more : (x : ℕ) (xs : List ℕ) (k : ℕ) → has xs x ≡ false → has (x ∷ xs) k ≡ (eqb x k ⊕ has xs k)
has_more x xs k fresh = grind (arith, common_steps)

-- ---- lists whose numbers are mapped

-- what a mapped list has comes from a number of the list
pub has_map_from : (f : ℕ → ℕ) (xs : List ℕ) (k : ℕ) → has (map f xs) k ≡ true → (x : ℕ) × (has xs x ≡ true) × (f x ≡ k)
has_map_from f [] k h = absurd (both_ways false refl h)
has_map_from f (x ∷ xs) k h =
    ⊎_elim
    (λ e. (x, has_here x xs, eqb-true (f x) k e))
    (λ e. let r = has_map_from f xs k e in (r.0, or_right (eqb x r.0) (has xs r.0) r.1, r.2))
    (or_cases (eqb (f x) k) (has (map f xs) k) h)

-- two mapped lists, item by item
pub has_map_same : (f g : ℕ → ℕ) (xs : List ℕ) (j k : ℕ) → ((x : ℕ) → has xs x ≡ true → eqb (f x) j ≡ eqb (g x) k) → has (map f xs) j ≡ has (map g xs) k
has_map_same f g [] j k h = refl
has_map_same f g (x ∷ xs) j k h = grind (arith, common_steps, has_here, h x (has_here x xs), has_map_same f g xs j k (λ y e. h y (or_right (eqb x y) (has xs y) e)))

-- by a map that takes no two numbers to one
pub has_map_one : (f : ℕ → ℕ) → ((x y : ℕ) → f x ≡ f y → x ≡ y) → (xs : List ℕ) (k : ℕ) → has (map f xs) (f k) ≡ has xs k
has_map_one f one [] k = refl
has_map_one f one (x ∷ xs) k = grind (arith, common_steps, one x k, has_map_one f one xs k)

pub has_map_none : (f : ℕ → ℕ) (xs : List ℕ) (k : ℕ) → ((x : ℕ) → has xs x ≡ true → f x ≡ k → ⊥) → has (map f xs) k ≡ false
has_map_none f xs k none = false_from_ne_true (has (map f xs) k) (λ e. let r = has_map_from f xs k e in none r.0 r.1 r.2)

-- a map that keeps the list's numbers apart
pub apart_map : (f : ℕ → ℕ) (xs : List ℕ) → ((x y : ℕ) → has xs x ≡ true → has xs y ≡ true → f x ≡ f y → x ≡ y) → Apart xs → Apart (map f xs)
apart_map f [] keeps a = tt
apart_map f (x ∷ xs) keeps a = (
  has_map_none f xs (f x)
      (λ y h e.
      let same : x ≡ y = keeps x y (has_here x xs) (or_right (eqb x y) (has xs y) h) (sym e) in
      both_ways (has xs x) a.0 (ap (has xs) same ∙ h)),
  apart_map f xs (λ y z hy hz. keeps y z (or_right (eqb x y) (has xs y) hy) (or_right (eqb x z) (has xs z) hz)) a.1,
)

pub apart_append : (xs ys : List ℕ) → Apart xs → Apart ys → ((k : ℕ) → has xs k ≡ true → has ys k ≡ false) → Apart (xs ++ ys)
apart_append [] ys a b off = b
apart_append (x ∷ xs) ys a b off = (
  grind (arith, common_steps, a.0, off x (has_here x xs), has_append xs ys x),
  apart_append xs ys a.1 b (λ k h. off k (or_right (eqb x k) (has xs k) h)),
)

-- ---- parities

pub parity_append : (s : Set) (xs ys : List ℕ) → parity s (xs ++ ys) ≡ (parity s xs ⊕ parity s ys)
parity_append s [] ys = refl
parity_append s (x ∷ xs) ys = grind (arith, common_steps, parity_append s xs ys)

pub parity_map : (s : Set) (f : ℕ → ℕ) (xs : List ℕ) → parity s (map f xs) ≡ parity (λ x. s (f x)) xs
parity_map s f [] = refl
parity_map s f (x ∷ xs) = grind (arith, common_steps, parity_map s f xs)

pub parity_add : (s t : Set) (xs : List ℕ) → parity (λ k. s k ⊕ t k) xs ≡ (parity s xs ⊕ parity t xs)
parity_add s t [] = refl
parity_add s t (x ∷ xs) = grind (arith, common_steps, parity_add s t xs)

pub parity_same : (s t : Set) (xs : List ℕ) → ((k : ℕ) → has xs k ≡ true → s k ≡ t k) → parity s xs ≡ parity t xs
parity_same s t [] h = refl
parity_same s t (x ∷ xs) h = grind (arith, common_steps, h x (has_here x xs), parity_same s t xs (λ k e. h k (or_right (eqb x k) (has xs k) e)))

pub parity_none : (s : Set) (xs : List ℕ) → ((k : ℕ) → has xs k ≡ true → s k ≡ false) → parity s xs ≡ false
parity_none s [] h = refl
parity_none s (x ∷ xs) h = grind (arith, common_steps, h x (has_here x xs), parity_none s xs (λ k e. h k (or_right (eqb x k) (has xs k) e)))

pub parity_one : (x : ℕ) (xs : List ℕ) → Apart xs → parity (eqb x) xs ≡ has xs x
parity_one x [] h = refl
parity_one x (y ∷ ys) h = grind (arith, common_steps, h.0, parity_one x ys h.1)

pub parity_swap : (xs ys : List ℕ) → Apart xs → Apart ys → parity (has xs) ys ≡ parity (has ys) xs
parity_swap [] ys h k = parity_none (has []) ys (λ v _. refl)
parity_swap (x ∷ xs) ys h k =
    parity_same (has (x ∷ xs)) (λ v. eqb x v ⊕ has xs v) ys (λ v _. has_more x xs v h.0)
    ∙ parity_add (eqb x) (has xs) ys
    ∙ ap₂ ◌⊕◌ (parity_one x ys k) (parity_swap xs ys h.1 k)

-- ---- the members below n, as a list

-- one turn of a loop that gathers them
pub members_more : (n : ℕ) (s : Set) (b : Bool) → s n ≡ b → members (n + 1) s ≡ members n s ++ cond b (n ∷ []) []
members_more n s b e = grind (arith, common_steps)

has_last : (b : Bool) (n k : ℕ) → has (cond b (n ∷ []) []) k ≡ (eqb n k && b)
has_last b n k = grind (arith, common_steps)

pub has_members : (n : ℕ) (s : Set) (k : ℕ) → has (members n s) k ≡ (ltb k n && s k)
has_members zero s k = grind (arith, common_steps)
has_members (suc n) s k = grind (arith, common_steps, has_append (members n s) (cond (s n) (n ∷ []) []) k, has_members n s k, has_last (s n) n k)

pub members_within : (n : ℕ) (s : Set) (k : ℕ) → has (members n s) k ≡ true → k < n
members_within n s k h = grind (arith, common_steps, has_members n s k)

pub members_apart : (n : ℕ) (s : Set) → Apart (members n s)
members_apart zero s = tt
members_apart (suc n) s =
    apart_append (members n s) (cond (s n) (n ∷ []) []) (members_apart n s) (single (s n)) (λ k h. grind (arith, common_steps, has_members n s k, has_last (s n) n k))
  where
    single : (b : Bool) → Apart (cond b (n ∷ []) [])
    single true = (refl, tt)
    single false = tt

pub members_same : (n : ℕ) (s t : Set) → ((k : ℕ) → k < n → s k ≡ t k) → members n s ≡ members n t
members_same zero s t h = refl
members_same (suc n) s t h = ap₂ (λ xs b. xs ++ cond b (n ∷ []) []) (members_same n s t (λ k l. h k (omega arith))) (h n (omega arith))

-- ---- tests of all numbers below n

pub all_below_at : (n : ℕ) (s : Set) → all_below n s ≡ true → (k : ℕ) → k < n → s k ≡ true
all_below_at zero s h k l = absurd (omega arith)
all_below_at (suc n) s h k l = grind (arith, common_steps, all_below_at n s)

pub all_below_from : (n : ℕ) (s : Set) → ((k : ℕ) → k < n → s k ≡ true) → all_below n s ≡ true
all_below_from zero s h = refl
all_below_from (suc n) s h = grind (arith, common_steps, h n, all_below_from n s (λ k l. h k (omega arith)))

pub all_below_fails : (n : ℕ) (s : Set) (k : ℕ) → k < n → s k ≡ false → all_below n s ≡ false
all_below_fails n s k l h = grind (arith, common_steps, all_below_at n s)

pub all_below_more : (n : ℕ) (s : Set) → all_below n s ≡ true → s n ≡ true → all_below (n + 1) s ≡ true
all_below_more n s h k = grind (arith, common_steps)

-- tests that agree on a list keep the same of it
pub kept_same : (s t : Set) (xs : List ℕ) → ((k : ℕ) → has xs k ≡ true → s k ≡ t k) → filter s xs ≡ filter t xs
kept_same s t [] h = refl
kept_same s t (x ∷ xs) h = ap₂ (λ b l. cond b (x ∷ l) l) (h x (has_here x xs)) (kept_same s t xs (λ k e. h k (or_right (eqb x k) (has xs k) e)))
