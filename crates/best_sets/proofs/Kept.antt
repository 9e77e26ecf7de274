-- The sets of a list are what a test can keep of it. Assumes nothing.
use Rattle.std.proofs.Common.{◌≡◌, ℕ, false, ◌||◌, eqb, List, [], ◌∷◌, map, filter, sym, refl, ap, ◌∙◌, ⊎_elim}
use Rattle.std.specs.List.{Contains, All}
use Rattle.std.proofs.lemmas.List.Elements.{All-nil, All-cons, All-head, All-tail, All-append, All-map, All-weaker, All-contains, All-contains_itself, Contains-append_left, Contains-append_right}
use Rattle.std.proofs.lemmas.Bool.{ne_eqb, cases_Bool, both_ways, or_left, or_right, or_cases, cond-true, cond-false, cond_both}
use Rattle.patterns.specs.Sets.{Set, Inside, has, Apart}
use Rattle.patterns.proofs.Lists.{has_here, kept_same}
use Rattle.best_sets.specs.Best.{sets}

-- ---- each that a test keeps is one of the sets

-- what holds of a mapped list holds of the values of the list's elements
all_unmap : {X Y : Type 0} (P : Y → Type 0) (f : X → Y) (xs : List X) → All P (map f xs) → All (λ x. P (f x)) xs
all_unmap P f [] h = All-nil (λ x. P (f x))
all_unmap P f (x ∷ xs) h = All-cons (λ x. P (f x)) x xs (All-head P (f x) (map f xs) h) (all_unmap P f xs (All-tail P (f x) (map f xs) h))

-- a mapped list has the value of each element
has_map : {X Y : Type 0} (f : X → Y) (xs : List X) (x : X) → Contains xs x → Contains (map f xs) (f x)
has_map f xs x at = All-contains (λ y. Contains (map f xs) (f y)) xs x (all_unmap (Contains (map f xs)) f xs (All-contains_itself (map f xs))) at

-- what a test keeps is one of the sets
pub kept_is_set : (s : Set) (xs : List ℕ) → Contains (sets xs) (filter s xs)
kept_is_set s [] = All-head (Contains (sets [])) [] [] (All-contains_itself (sets []))
kept_is_set s (x ∷ xs) =
    let rest = kept_is_set s xs in
    cond_both (s x) (x ∷ filter s xs) (filter s xs) (Contains (sets (x ∷ xs)))
    (λ _. Contains-append_left (map (λ f. x ∷ f) (sets xs)) (sets xs) (x ∷ filter s xs) (has_map (λ f. x ∷ f) (sets xs) (filter s xs) rest))
    (λ _. Contains-append_right (map (λ f. x ∷ f) (sets xs)) (sets xs) (filter s xs) rest)

-- ---- each of the sets is kept by the test that it is

-- what holds of all sets of a list, where each number of it is taken or passed over
sets_all : (P : List ℕ → List ℕ → Type 0) → P [] []
    → ((x : ℕ) (xs f : List ℕ) → P xs f → P (x ∷ xs) (x ∷ f)) → ((x : ℕ) (xs f : List ℕ) → P xs f → P (x ∷ xs) f)
    → (xs : List ℕ) → All (P xs) (sets xs)
sets_all P none taken passed [] = All-cons (P []) [] [] none (All-nil (P []))
sets_all P none taken passed (x ∷ xs) =
    let rest = sets_all P none taken passed xs in
    All-append (P (x ∷ xs)) (map (λ f. x ∷ f) (sets xs)) (sets xs)
    (All-map (P (x ∷ xs)) (λ f. x ∷ f) (sets xs) (All-weaker (P xs) (λ f. P (x ∷ xs) (x ∷ f)) (taken x xs) (sets xs) rest))
    (All-weaker (P xs) (P (x ∷ xs)) (passed x xs) (sets xs) rest)

-- what is not in a list is in no list inside it
outside : (xs f : List ℕ) (x : ℕ) → Inside (has f) (has xs) → has xs x ≡ false → has f x ≡ false
outside xs f x inside fresh = ⊎_elim (λ e. absurd (both_ways (has xs x) fresh (inside x e))) (λ e. e) (cases_Bool (has f x))

-- a list of some numbers of another: if the other has no repeats, it has none, and the test that it is keeps it
abbrev Part : List ℕ → List ℕ → Type 0
Part xs f = Inside (has f) (has xs) × (Apart xs → Apart f × (f ≡ filter (has f) xs))

-- with a number that is taken
part_taken : (x : ℕ) (xs f : List ℕ) → Part xs f → Part (x ∷ xs) (x ∷ f)
part_taken x xs f part = (
  λ k h. ⊎_elim (λ e. or_left (eqb x k) (has xs k) e) (λ e. or_right (eqb x k) (has xs k) (part.0 k e)) (or_cases (eqb x k) (has f k) h),
  λ apart.
      let rest = part.1 apart.1 in (
        (outside xs f x part.0 apart.0, rest.0),
        ap (λ l. x ∷ l) (rest.1 ∙ kept_same (has f) (has (x ∷ f)) xs (λ k h. sym (ap (λ b. b || has f k) (ne_eqb x k (λ e. both_ways (has xs x) apart.0 (ap (has xs) e ∙ h))))))
            ∙ sym (cond-true (has (x ∷ f) x) (x ∷ filter (has (x ∷ f)) xs) (filter (has (x ∷ f)) xs) (has_here x f)),
      ),
)

-- with a number that is passed over
part_passed : (x : ℕ) (xs f : List ℕ) → Part xs f → Part (x ∷ xs) f
part_passed x xs f part = (
  λ k h. or_right (eqb x k) (has xs k) (part.0 k h),
  λ apart.
      let rest = part.1 apart.1 in
      (rest.0, rest.1 ∙ sym (cond-false (has f x) (x ∷ filter (has f) xs) (filter (has f) xs) (outside xs f x part.0 apart.0))),
)

-- each of the sets is such a list
set_is_part : (xs f : List ℕ) → Contains (sets xs) f → Part xs f
set_is_part xs f at = All-contains (Part xs) (sets xs) f (sets_all Part (λ k h. h, λ _. (tt, refl)) part_taken part_passed xs) at

-- a set of the numbers of a list has only numbers of the list
pub set_inside : (xs f : List ℕ) → Contains (sets xs) f → Inside (has f) (has xs)
set_inside xs f at = (set_is_part xs f at).0

-- without repeats if the list has none
pub set_apart : (xs f : List ℕ) → Apart xs → Contains (sets xs) f → Apart f
set_apart xs f apart at = ((set_is_part xs f at).1 apart).0

-- and then it is what its own test keeps of the list
pub set_is_kept : (xs f : List ℕ) → Apart xs → Contains (sets xs) f → f ≡ filter (has f) xs
set_is_kept xs f apart at = ((set_is_part xs f at).1 apart).1
