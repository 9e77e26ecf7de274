-- What the neighbours of a node tell of a check or a generator. Assumes nothing.
use Rattle.std.proofs.Common.{◌≡◌, ℕ, ◌+◌, ◌<◌, Bool, true, false, cond, not, ◌&&◌, ◌||◌, eqb, ltb, List, [], ◌∷◌, length, drop, is_some, is_none, Some, None, filter, Option, sym, refl, ap, ◌∙◌, ⊎_elim, arith}
use Rattle.std.specs.Bool.{then_some}
use Rattle.std.specs.List.{list_all, list_any}
use Rattle.std.specs.Option.{option_map}
use Rattle.std.proofs.lemmas.Iterator.{YieldsList}
use Rattle.std.proofs.lemmas.Iterator.Consumers.{YieldsList-turn, YieldsList-end}
use Rattle.std.proofs.lemmas.List.{at_drop_more}
use Rattle.std.proofs.lemmas.Bool.{cond-true, lt-ltb, and_parts, both_ways, eqb-true, or_cases}
use Rattle.patterns.specs.Sets.{Set, has}
use Rattle.matrices.specs.Relations.{neighbours}
use Rattle.matrices.proofs.Lookups.{Found}
use Rattle.codes.specs.declared.code.Qubit.{Qubit}
use Rattle.codes.specs.Layouts.{Layout}
use Rattle.scans.specs.Scans.{single, all_in, is_empty, none_in, meets, meeting, only_one, held_by, all_held}

-- what is left of a list, from a place where a neighbour was told
pub rest_at : {Y : Type 0} (F : List ℕ → Y) (row : List ℕ) (k v : ℕ) → Found row k v → F (drop k row) ≡ F (v ∷ drop (k + 1) row)
rest_at F row k v f = at_drop_more F row k 0 f.here ∙ ap (λ x. F (x ∷ drop (k + 1) row)) f.is

-- ---- answers over the neighbours

any_filter : (s : Set) (xs : List ℕ) → list_any s xs ≡ not (none_in s xs)
any_filter s [] = refl
any_filter s (x ∷ xs) = at (s x) (any_filter s xs)
  where
    at : (b : Bool) → list_any s xs ≡ not (none_in s xs) → (b || list_any s xs) ≡ not (is_empty (cond b (x ∷ filter s xs) (filter s xs)))
    at true e = refl
    at false e = e

-- whether some neighbour of the check is in the set
pub any_meets : (c : Layout) (s : Set) (u : ℕ) → list_any s (neighbours c.checks c.of_check u) ≡ meets c s u
any_meets c s u = at (ltb u c.checks)
  where
    at : (b : Bool) → list_any s (cond b (c.of_check u) []) ≡ (b && not (none_in s (c.of_check u)))
    at true = any_filter s (c.of_check u)
    at false = refl

-- the one of those in the set
pub single_met : (c : Layout) (s : Set) (u : ℕ) → single (filter s (neighbours c.checks c.of_check u)) ≡ only_one c s u
single_met c s u = at (ltb u c.checks)
  where
    at : (b : Bool) → single (filter s (cond b (c.of_check u) [])) ≡ cond b (single (meeting c s u)) None
    at true = refl
    at false = refl

-- ---- the one item that an iterator gives

-- a qubit that is told if nothing else is
pub lone : (b : Option ℕ) (none : Bool) (x : ℕ) → is_some b ≡ not none → option_map (λ (v : Qubit). v.0) (then_some none (record { 0 = x })) ≡ cond (is_none b) (Some x) None
lone None true x e = refl
lone None false x e = absurd (both_ways true (sym e) refl)
lone (Some y) true x e = absurd (both_ways true e refl)
lone (Some y) false x e = refl

more_than_one : (l : List ℕ) → 1 < length l → None ≡ single l
more_than_one [] h = absurd (omega arith)
more_than_one (a ∷ []) h = absurd (omega arith)
more_than_one (a ∷ b ∷ l) h = refl

module _ {S : Type 0} {steps : S → Option ℕ → S → Type 0} {s t : S} {all : List ℕ} (gives : YieldsList steps (λ x. x) s all) where
  pub given_none : steps s None t → None ≡ single all
  given_none first = ap single (YieldsList-end gives [] s refl None t refl first).0

  -- the first answer, where the second is none
  pub given_one : {u : S} (x : ℕ) → steps s (Some x) t → (b : Option ℕ) → steps t b u → cond (is_none b) (Some x) None ≡ single all
  given_one {u} x first None then = ap single (YieldsList-end gives (x ∷ []) t (t, first, refl) None u refl then).0
  given_one {u} x first (Some y) then = more_than_one all (YieldsList-turn gives (x ∷ []) t (t, first, refl) (Some y) u y refl then).0

any_has : (xs : List ℕ) (v : ℕ) → list_any (λ x. eqb x v) xs ≡ has xs v
any_has [] v = refl
any_has (x ∷ xs) v = ap (λ b. eqb x v || b) (any_has xs v)

-- whether some neighbour of the generator is the qubit
pub any_held : (c : Layout) (g v : ℕ) → list_any (λ w. eqb w v) (neighbours c.generators c.of_generator g) ≡ held_by c g v
any_held c g v = at (ltb g c.generators)
  where
    at : (b : Bool) → list_any (λ w. eqb w v) (cond b (c.of_generator g) []) ≡ (b && has (c.of_generator g) v)
    at true = any_has (c.of_generator g) v
    at false = refl

all_all : (s : Set) (xs : List ℕ) → list_all s xs ≡ all_in s xs
all_all s [] = refl
all_all s (x ∷ xs) = ap (λ b. s x && b) (all_all s xs)

-- whether all neighbours of a generator that there is are in the set
pub all_met : (c : Layout) (s : Set) (g : ℕ) → g < c.generators → list_all s (neighbours c.generators c.of_generator g) ≡ all_held c s g
all_met c s g h = at (ltb g c.generators) (lt-ltb g c.generators h)
  where
    at : (b : Bool) → b ≡ true → list_all s (cond b (c.of_generator g) []) ≡ (b && all_in s (c.of_generator g))
    at true e = all_all s (c.of_generator g)
    at false e = absurd (both_ways true (sym e) refl)

-- ---- nodes that there are

pub only_one_of : (c : Layout) (s : Set) (u : ℕ) → u < c.checks → only_one c s u ≡ single (meeting c s u)
only_one_of c s u within = cond-true (ltb u c.checks) (single (meeting c s u)) None (lt-ltb u c.checks within)

pub held_has : (c : Layout) (g v : ℕ) → true ≡ held_by c g v → has (c.of_generator g) v ≡ true
held_has c g v e = (and_parts (ltb g c.generators) (has (c.of_generator g) v) (sym e)).1

pub held_all : (c : Layout) (s : Set) (g : ℕ) → true ≡ all_held c s g → all_in s (c.of_generator g) ≡ true
held_all c s g e = (and_parts (ltb g c.generators) (all_in s (c.of_generator g)) (sym e)).1

-- each number of a list that is in a set is in it
pub all_in_has : (s : Set) (xs : List ℕ) → all_in s xs ≡ true → (v : ℕ) → has xs v ≡ true → s v ≡ true
all_in_has s [] h v k = absurd (both_ways false refl k)
all_in_has s (x ∷ xs) h v k =
    let both = and_parts (s x) (all_in s xs) h in
    ⊎_elim (λ e. ap s (sym (eqb-true x v e)) ∙ both.0) (λ e. all_in_has s xs both.1 v e) (or_cases (eqb x v) (has xs v) k)
