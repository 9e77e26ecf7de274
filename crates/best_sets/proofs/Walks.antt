-- The walk over the sets of the rows finds the best set of the numbers that the rows stand for. Assumes nothing.
use Rattle.std.proofs.Common.{◌≡◌, ℕ, zero, suc, ◌+◌, ◌*◌, ◌<◌, ◌≤◌, Bool, true, false, cond, ◌&&◌, ◌||◌, eqb, ltb, List, [], ◌∷◌, ◌++◌, map, length, sym, refl, ap, ◌∙◌, ap₂, ⊎_elim, arith}
use mathlib.Core.List.{map-map, map-append}
use Rattle.std.specs.List.{All, best_of}
use Rattle.std.proofs.lemmas.List.Elements.{All-nil, All-cons, All-head, All-tail, All-map, All-append, All-weaker}
use Rattle.std.proofs.lemmas.List.Sums.{fold-append}
use Rattle.std.proofs.lemmas.Bool.{lt-ltb, le-ltb, eq-eqb, ne_eqb, cases_lt, cases_eq, both_ways}
use Rattle.best_sets.specs.declared.Choice.{Choice}
use Rattle.best_sets.specs.Walk.{changed_by, weighed, wins, walked}
use Rattle.best_sets.specs.Best.{sets, sooner, beats, best_set}
use Rattle.best_sets.specs.Rising.{Rising}

-- ---- a set as a list of places, each taken or not

-- all ways to take some of k places, in the walk's order
pub vectors : ℕ → List (List Bool)
vectors zero = [] ∷ []
vectors (suc k) = map (λ b. true ∷ b) (vectors k) ++ map (λ b. false ∷ b) (vectors k)

-- what stands at the places that are taken
abbrev pub pick : {X : Type 0} → List Bool → List X → List X
pick [] xs = []
pick (b ∷ bs) [] = []
pick (true ∷ bs) (x ∷ xs) = x ∷ pick bs xs
pick (false ∷ bs) (x ∷ xs) = pick bs xs

-- the words that are left after the rows that are taken
abbrev pub lefts : List (List ℕ) → List ℕ → List Bool → List ℕ
lefts rows l [] = l
lefts [] l (b ∷ bs) = l
lefts (r ∷ rows) l (true ∷ bs) = lefts rows (changed_by l r) bs
lefts (r ∷ rows) l (false ∷ bs) = lefts rows l bs

-- how many places are taken
abbrev pub trues : List Bool → ℕ
trues [] = 0
trues (true ∷ bs) = 1 + trues bs
trues (false ∷ bs) = trues bs

-- the number p with a bit for each place behind it
abbrev pub number_from : ℕ → List Bool → ℕ
number_from p [] = p
number_from p (true ∷ bs) = number_from (2 * p + 1) bs
number_from p (false ∷ bs) = number_from (2 * p) bs

-- what the walk compares at the end of one way
abbrev pub leaf : List (List ℕ) → List ℕ → ℕ → ℕ → List Bool → Choice
leaf rows l z p b = record { weight = weighed (lefts rows l b); size = z + trues b; picks = number_from p b }

-- ---- the walk as a fold over all ways

-- each way speaks of all places
vectors_length : (k : ℕ) → All (λ b. length b ≡ k) (vectors k)
unfolding vectors
vectors_length zero = All-cons (λ b. length b ≡ zero) [] [] refl (All-nil (λ b. length b ≡ zero))
vectors_length (suc k) =
    let h = All-weaker (λ b. length b ≡ k) (λ b. suc (length b) ≡ suc k) (λ b e. ap suc e) (vectors k) (vectors_length k) in
    All-append (λ b. length b ≡ suc k) (map (λ b. true ∷ b) (vectors k)) (map (λ b. false ∷ b) (vectors k))
    (All-map (λ b. length b ≡ suc k) (λ b. true ∷ b) (vectors k) h)
    (All-map (λ b. length b ≡ suc k) (λ b. false ∷ b) (vectors k) h)

-- a row that is taken counts before or after those behind it
step_size : (rows : List (List ℕ)) (l : List ℕ) (z p : ℕ) (b : List Bool) → leaf rows l (z + 1) p b ≡ record { weight = weighed (lefts rows l b); size = z + (1 + trues b); picks = number_from p b }
step_size rows l z p b = let e : z + 1 + trues b ≡ z + (1 + trues b) = omega arith in ap (λ n. record { weight = weighed (lefts rows l b); size = n; picks = number_from p b }) e

-- equal functions map a list alike
map_same : {X Y : Type 0} (f g : X → Y) → ((x : X) → f x ≡ g x) → (xs : List X) → map f xs ≡ map g xs
map_same f g h [] = refl
map_same f g h (x ∷ xs) = ap₂ ◌∷◌ (h x) (map_same f g h xs)

-- the walk takes the best of the ends of all ways
pub walked_leaves : (rows : List (List ℕ)) (l : List ℕ) (z p : ℕ) (best : Choice) → walked rows l z p best ≡ best_of wins best (map (leaf rows l z p) (vectors (length rows)))
unfolding walked vectors
walked_leaves [] l z p best =
    let e : z ≡ z + 0 = omega arith in
    ap (λ n. cond (wins (record { weight = weighed l; size = n; picks = p }) best) (record { weight = weighed l; size = n; picks = p }) best) e
walked_leaves (r ∷ rows) l z p best =
    let k = length rows in
    let V = vectors k in
    let f = leaf (r ∷ rows) l z p in
    let pick-one : Choice → Choice → Choice = λ b x. cond (wins x b) x b in
    let one : map (leaf rows (changed_by l r) (z + 1) (2 * p + 1)) V ≡ map f (map (λ b. true ∷ b) V) =
    map_same (leaf rows (changed_by l r) (z + 1) (2 * p + 1)) (λ b. f (true ∷ b)) (λ b. step_size rows (changed_by l r) z (2 * p + 1) b) V ∙ sym (map-map f (λ b. true ∷ b) V) in
    let two : map (leaf rows l z (2 * p)) V ≡ map f (map (λ b. false ∷ b) V) = sym (map-map f (λ b. false ∷ b) V) in
    walked_leaves rows l z (2 * p) (walked rows (changed_by l r) (z + 1) (2 * p + 1) best)
    ∙ ap₂ (λ x ys. best_of wins x ys) (walked_leaves rows (changed_by l r) (z + 1) (2 * p + 1) best ∙ ap (best_of wins best) one) two
    ∙ sym (fold-append pick-one best (map f (map (λ b. true ∷ b) V)) (map f (map (λ b. false ∷ b) V)))
    ∙ ap (best_of wins best) (sym (map-append f (map (λ b. true ∷ b) V) (map (λ b. false ∷ b) V)))

-- the sets of a list are what the ways pick of it
pub sets_picked : (xs : List ℕ) → sets xs ≡ map (λ b. pick b xs) (vectors (length xs))
unfolding vectors
sets_picked [] = refl
sets_picked (x ∷ xs) =
    let V = vectors (length xs) in
    ap₂ ◌++◌
    (ap (map (λ s. x ∷ s)) (sets_picked xs) ∙ map-map (λ s. x ∷ s) (λ b. pick b xs) V ∙ sym (map-map (λ b. pick b (x ∷ xs)) (λ b. true ∷ b) V))
    (sets_picked xs ∙ sym (map-map (λ b. pick b (x ∷ xs)) (λ b. false ∷ b) V))
    ∙ sym (map-append (λ b. pick b (x ∷ xs)) (map (λ b. true ∷ b) V) (map (λ b. false ∷ b) V))

-- ---- two folds over the same ways

-- where two tests agree, the two folds end at the same way
pub side_by_side : {V X Y : Type 0} (P : V → Type 0) (f : V → X) (h : V → Y) (bx : X → X → Bool) (by : Y → Y → Bool)
    → ((a b : V) → P a → P b → bx (f a) (f b) ≡ by (h a) (h b))
    → (a : V) (vs : List V) → P a → All P vs
    → (v : V) × P v × (best_of bx (f a) (map f vs) ≡ f v) × (best_of by (h a) (map h vs) ≡ h v)
side_by_side P f h bx by agree a [] pa ps = (a, pa, refl, refl)
side_by_side {V} {X} {Y} P f h bx by agree a (v ∷ vs) pa ps =
    let pv = All-head P v vs ps in
    let rest = All-tail P v vs ps in
    turn (bx (f v) (f a)) (by (h v) (h a)) (agree v a pv pa) (side_by_side P f h bx by agree v vs pv rest) (side_by_side P f h bx by agree a vs pa rest)
  where
    End : X → Y → Type 0
    End x y = (u : V) × P u × (best_of bx x (map f vs) ≡ f u) × (best_of by y (map h vs) ≡ h u)

    turn : (s t : Bool) → s ≡ t → End (f v) (h v) → End (f a) (h a) → End (cond s (f v) (f a)) (cond t (h v) (h a))
    turn true true e p q = p
    turn false false e p q = q
    turn true false e p q = absurd (both_ways true (e ∙ refl) refl)
    turn false true e p q = absurd (both_ways false refl (e ∙ refl))

-- ---- numbers against lists

-- whether the first place where two ways differ is taken in the first of them
abbrev first : List Bool → List Bool → Bool
first [] b = false
first (x ∷ a) [] = false
first (true ∷ a) (true ∷ b) = first a b
first (true ∷ a) (false ∷ b) = true
first (false ∷ a) (true ∷ b) = false
first (false ∷ a) (false ∷ b) = first a b

-- a smaller number stays smaller, whatever bits follow
number_less : (p q : ℕ) (a b : List Bool) → length a ≡ length b → p < q → number_from p a < number_from q b
number_less p q [] [] e h = h
number_less p q [] (y ∷ b) e h = absurd (omega arith)
number_less p q (x ∷ a) [] e h = absurd (omega arith)
number_less p q (true ∷ a) (true ∷ b) e h = number_less (2 * p + 1) (2 * q + 1) a b (omega arith) (omega arith)
number_less p q (true ∷ a) (false ∷ b) e h = number_less (2 * p + 1) (2 * q) a b (omega arith) (omega arith)
number_less p q (false ∷ a) (true ∷ b) e h = number_less (2 * p) (2 * q + 1) a b (omega arith) (omega arith)
number_less p q (false ∷ a) (false ∷ b) e h = number_less (2 * p) (2 * q) a b (omega arith) (omega arith)

-- the greater number is that of the way that takes the first place where they differ
number_first : (p : ℕ) (a b : List Bool) → length a ≡ length b → ltb (number_from p b) (number_from p a) ≡ first a b
number_first p [] [] e = le-ltb p p (omega arith)
number_first p [] (y ∷ b) e = absurd (omega arith)
number_first p (x ∷ a) [] e = absurd (omega arith)
number_first p (true ∷ a) (true ∷ b) e = number_first (2 * p + 1) a b (omega arith)
number_first p (true ∷ a) (false ∷ b) e = lt-ltb (number_from (2 * p) b) (number_from (2 * p + 1) a) (number_less (2 * p) (2 * p + 1) b a (omega arith) (omega arith))
number_first p (false ∷ a) (true ∷ b) e = le-ltb (number_from (2 * p + 1) b) (number_from (2 * p) a) (omega (arith, number_less (2 * p) (2 * p + 1) a b (omega arith) (omega arith)))
number_first p (false ∷ a) (false ∷ b) e = number_first (2 * p) a b (omega arith)

-- what holds of all holds of what is picked
pub all_picked : (P : ℕ → Type 0) (b : List Bool) (xs : List ℕ) → All P xs → All P (pick b xs)
all_picked P [] xs h = All-nil P
all_picked P (b ∷ bs) [] h = All-nil P
all_picked P (true ∷ bs) (x ∷ xs) h = All-cons P x (pick bs xs) (All-head P x xs h) (all_picked P bs xs (All-tail P x xs h))
all_picked P (false ∷ bs) (x ∷ xs) h = all_picked P bs xs (All-tail P x xs h)

-- a list with x in front is sooner than one of numbers above x
here_first : (x : ℕ) (s t : List ℕ) → All (λ y. x < y) t → sooner (x ∷ s) t ≡ true
here_first x s [] h = refl
here_first x s (y ∷ t) h = ap (λ b. b || (eqb x y && sooner s t)) (lt-ltb x y (All-head (λ z. x < z) y t h))

-- and the other way round it is not
there_first : (x : ℕ) (s t : List ℕ) → All (λ y. x < y) s → sooner s (x ∷ t) ≡ false
there_first x [] t h = refl
there_first x (y ∷ s) t h = let k = All-head (λ z. x < z) y s h in ap₂ (λ a b. a || (b && sooner s t)) (le-ltb y x (omega arith)) (ne_eqb y x (λ e. omega arith))

-- the same number in front of both does not matter
both_first : (x : ℕ) (s t : List ℕ) → sooner (x ∷ s) (x ∷ t) ≡ sooner s t
both_first x s t = ap₂ (λ a b. a || (b && sooner s t)) (le-ltb x x (omega arith)) (eq-eqb x x refl)

-- the sooner list is that of the way that takes the first place where they differ
sooner_first : (xs : List ℕ) (a b : List Bool) → Rising xs → length a ≡ length xs → length b ≡ length xs → sooner (pick a xs) (pick b xs) ≡ first a b
sooner_first xs [] b h e f = refl
sooner_first [] (x ∷ a) b h e f = absurd (omega arith)
sooner_first (y ∷ xs) (x ∷ a) [] h e f = absurd (omega arith)
sooner_first (x ∷ xs) (true ∷ a) (true ∷ b) h e f = both_first x (pick a xs) (pick b xs) ∙ sooner_first xs a b h.1 (omega arith) (omega arith)
sooner_first (x ∷ xs) (true ∷ a) (false ∷ b) h e f = here_first x (pick a xs) (pick b xs) (all_picked (λ y. x < y) b xs h.0)
sooner_first (x ∷ xs) (false ∷ a) (true ∷ b) h e f = there_first x (pick a xs) (pick b xs) (all_picked (λ y. x < y) a xs h.0)
sooner_first (x ∷ xs) (false ∷ a) (false ∷ b) h e f = sooner_first xs a b h.1 (omega arith) (omega arith)

-- as many are picked as places are taken
pub length_picked : {X : Type 0} (b : List Bool) (xs : List X) → length b ≡ length xs → length (pick b xs) ≡ trues b
length_picked [] xs e = refl
length_picked (b ∷ bs) [] e = absurd (omega arith)
length_picked (true ∷ bs) (x ∷ xs) e = omega (arith, length_picked bs xs (omega arith))
length_picked (false ∷ bs) (x ∷ xs) e = length_picked bs xs (omega arith)

-- ---- the same amount more on both sides of a comparison

-- of less
ltb_more : (k a b : ℕ) → ltb (k + a) (k + b) ≡ ltb a b
ltb_more k a b = ⊎_elim (λ (h : a < b). lt-ltb (k + a) (k + b) (omega arith) ∙ sym (lt-ltb a b h)) (λ (h : b ≤ a). le-ltb (k + a) (k + b) (omega arith) ∙ sym (le-ltb a b h)) (cases_lt a b)

-- of equality
eqb_more : (k a b : ℕ) → eqb (k + a) (k + b) ≡ eqb a b
eqb_more k a b = ⊎_elim (λ (h : a ≡ b). eq-eqb (k + a) (k + b) (ap (λ n. k + n) h) ∙ sym (eq-eqb a b h)) (λ (h : a ≡ b → ⊥). ne_eqb (k + a) (k + b) (λ e. h (omega arith)) ∙ sym (ne_eqb a b h)) (cases_eq a b)

-- ---- the way that takes nothing

-- k places, none of them taken
none_taken : ℕ → List Bool
none_taken zero = []
none_taken (suc k) = false ∷ none_taken k

-- it has k places
length_none : (k : ℕ) → length (none_taken k) ≡ k
unfolding none_taken
length_none zero = refl
length_none (suc k) = ap suc (length_none k)

-- it picks nothing
pick_none : (k : ℕ) (xs : List ℕ) → pick (none_taken k) xs ≡ []
unfolding none_taken
pick_none zero xs = refl
pick_none (suc k) [] = refl
pick_none (suc k) (x ∷ xs) = pick_none k xs

-- it leaves the words at the start
leaf_none : (k : ℕ) (rows : List (List ℕ)) (start : List ℕ) → length rows ≡ k → leaf rows start 0 0 (none_taken k) ≡ record { weight = weighed start; size = 0; picks = 0 }
unfolding none_taken
leaf_none zero rows start e = refl
leaf_none (suc k) [] start e = absurd (omega arith)
leaf_none (suc k) (r ∷ rows) start e = leaf_none k rows start (omega arith)

-- ---- The walk over rows against the best set of rising numbers, one number to a row.
-- The weight of a set of numbers is what its rows leave, and an amount that is the same for all.

module _ (rows : List (List ℕ)) (start xs : List ℕ) (w : List ℕ → ℕ) (off : ℕ) (rising : Rising xs) (many : length rows ≡ length xs)
    (fits : (b : List Bool) → length b ≡ length xs → w (pick b xs) ≡ off + weighed (lefts rows start b)) where
  -- the walk's comparison is that of the sets
  agree : (a b : List Bool) → length a ≡ length xs → length b ≡ length xs → wins (leaf rows start 0 0 a) (leaf rows start 0 0 b) ≡ beats w (pick a xs) (pick b xs)
  agree a b ha hb =
      let wa = weighed (lefts rows start a) in
      let wb = weighed (lefts rows start b) in
      let sa : 0 + trues a ≡ length (pick a xs) = omega (arith, length_picked a xs ha) in
      let sb : 0 + trues b ≡ length (pick b xs) = omega (arith, length_picked b xs hb) in
      let less : ltb wa wb ≡ ltb (w (pick a xs)) (w (pick b xs)) = sym (ltb_more off wa wb) ∙ sym (ap₂ ltb (fits a ha) (fits b hb)) in
      let same : eqb wa wb ≡ eqb (w (pick a xs)) (w (pick b xs)) = sym (eqb_more off wa wb) ∙ sym (ap₂ eqb (fits a ha) (fits b hb)) in
      let order : ltb (number_from 0 b) (number_from 0 a) ≡ sooner (pick a xs) (pick b xs) = number_first 0 a b (ha ∙ sym hb) ∙ sym (sooner_first xs a b rising ha hb) in
      let rest : (ltb (0 + trues a) (0 + trues b) || (eqb (0 + trues a) (0 + trues b) && ltb (number_from 0 b) (number_from 0 a))) ≡ (ltb (length (pick a xs)) (length (pick b xs)) || (eqb (length (pick a xs)) (length (pick b xs)) && sooner (pick a xs) (pick b xs))) =
      ap₂ ◌||◌ (ap₂ ltb sa sb) (ap₂ ◌&&◌ (ap₂ eqb sa sb) order) in
      ap₂ ◌||◌ less (ap₂ ◌&&◌ same rest)

  -- the walk ends at the way that picks the best set
  pub walk_right : (v : List Bool) × (length v ≡ length xs) × (walked rows start 0 0 (record { weight = weighed start; size = 0; picks = 0 }) ≡ leaf rows start 0 0 v) × (best_set w xs ≡ pick v xs)
  unfolding best_set
  walk_right =
      let k = length xs in
      let none = none_taken k in
      let both = side_by_side (λ b. length b ≡ k) (leaf rows start 0 0) (λ b. pick b xs) wins (beats w) agree none (vectors k) (length_none k) (vectors_length k) in (
        both.0,
        both.1,
        walked_leaves rows start 0 0 (record { weight = weighed start; size = 0; picks = 0 })
            ∙ ap₂ (λ a n. best_of wins a (map (leaf rows start 0 0) (vectors n))) (sym (leaf_none k rows start many)) many
            ∙ both.2,
        ap₂ (λ a l. best_of (beats w) a l) (sym (pick_none k xs)) (sets_picked xs) ∙ both.3,
      )
