-- The second invariant: what explains the opening lives on in what is open. Assumes nothing.
use Rattle.std.proofs.Common.{◌≡◌, ℕ, ◌<◌, Bool, true, false, cond, not, ◌&&◌, eqb, List, [], ◌∷◌, sym, refl, ap, ◌∙◌, subst, ap₂, ⊎_elim}
use mathlib.Core.Bool.{and-true, and-false, or-false}
use Rattle.std.proofs.lemmas.Bool.{cases_Bool, eq-eqb, eqb-true, or_cases, both_ways, and_from, cond_both}
use Rattle.patterns.specs.Sets.{Set, ◌⊕◌, Inside, has, parity}
use Rattle.patterns.specs.Patterns.{member}
use Rattle.patterns.proofs.Sums.{plus_zero, plus_self}
use Rattle.patterns.proofs.Lists.{parity_add, parity_same, parity_none, parity_one}
use Rattle.patterns.proofs.Packed.{member_pattern, member_below}
use Rattle.patterns.proofs.Added.{member_added}
use Rattle.codes.specs.Layouts.{Layout, Sound}
use Rattle.scans.specs.Scans.{all_in, meeting}
use Rattle.moves.specs.Jobs.{Model, opening, changed, closed, counted}
use Rattle.moves.specs.Moves.{peel_at}
use Rattle.jobs.specs.Theorem.{SyndromeOf, Explains, GeneratorsInside, generators_sum}
use Rattle.jobs.proofs.Counts.{member_closed}
use Rattle.scans.proofs.Scanning.{all_in_has}
use Rattle.jobs.proofs.Picks.{in_check, at_one, one_inside}
use Rattle.jobs.proofs.Keeping.{Keeps}
use Rattle.jobs.proofs.Books.{one_of, InBooks, books_changed, books_closed, books_peel}

-- ---- bits

sum_both : (e b k f : Bool) → ((e ⊕ (b ⊕ f)) ⊕ (k ⊕ f)) ≡ ((e ⊕ b) ⊕ k)
sum_both e b k false = ap₂ (λ x y. (e ⊕ x) ⊕ y) (plus_zero b) (plus_zero k)
sum_both true true true true = refl
sum_both true true false true = refl
sum_both true false true true = refl
sum_both true false false true = refl
sum_both false true true true = refl
sum_both false true false true = refl
sum_both false false true true = refl
sum_both false false false true = refl

sum_one : (e b k f : Bool) → ((e ⊕ (b ⊕ f)) ⊕ k) ≡ (f ⊕ ((e ⊕ b) ⊕ k))
sum_one e b k false = ap (λ x. (e ⊕ x) ⊕ k) (plus_zero b)
sum_one true true true true = refl
sum_one true true false true = refl
sum_one true false true true = refl
sum_one true false false true = refl
sum_one false true true true = refl
sum_one false true false true = refl
sum_one false false true true = refl
sum_one false false false true = refl

parity_scaled : (b : Bool) (s : Set) (xs : List ℕ) → parity (λ w. b && s w) xs ≡ (b && parity s xs)
parity_scaled true s xs = refl
parity_scaled false s xs = parity_none (λ _. false) xs (λ _ _. refl)

-- Of the set e there is a rest inside what is open, with what remains as its syndrome; and e, the rest and the correction sum to generators inside the erasure.
pub record Lives (c : Layout) (erasure e : Set) (remaining opened correction : List ℕ) : Type 0 where
  pub rest : Set
  pub inside : Inside rest (member opened)
  pub syndrome : SyndromeOf c rest (member remaining)
  pub generators : List ℕ
  pub good : GeneratorsInside c erasure generators
  pub sums : (v : ℕ) → v < c.qubits → ((e v ⊕ rest v) ⊕ member correction v) ≡ generators_sum c generators v

-- the set e lives on in a job
abbrev pub Alive : Layout → Set → Set → Model → Type 0
Alive c erasure e m = Lives c erasure e m.remaining m.opened m.correction

pub alive_opening : (c : Layout) (syndrome erasure : List ℕ) (e : Set) → Explains c (member syndrome) (member erasure) e → Alive c (member erasure) e (opening c syndrome erasure)
alive_opening c syndrome erasure e explains = record {
  rest = e;
  inside = explains.0;
  syndrome = explains.1;
  generators = [];
  good = λ g h. absurd (both_ways false refl h);
  sums = λ v h. ap₂ ◌⊕◌ (plus_self (e v)) (member_pattern c.qubits (λ _. false) v h);
}

module _ (c : Layout) (sound : Sound c) (syndrome erasure e : Set) where
  abbrev Booked : Model → Type 0
  Booked = InBooks c syndrome erasure

  abbrev Living : Model → Type 0
  Living = Alive c erasure e

  -- the correction changes on open qubits
  alive_changed : (m : Model) (f : List ℕ) → Booked m → Inside (has f) (member m.opened) → Living m → Living (changed c m f)
  alive_changed m f b inside l = record {
    rest = λ v. l.rest v ⊕ has f v;
    inside = λ v. one_of (member m.opened v ≡ true) (l.rest v) (has f v) (l.inside v) (inside v);
    syndrome = λ u h.
        parity_add l.rest (has f) (c.of_check u)
        ∙ ap (λ x. x ⊕ parity (has f) (c.of_check u)) (l.syndrome u h)
        ∙ sym (member_added c.checks m.remaining (λ u. parity (has f) (c.of_check u)) b.well_remaining u h);
    generators = l.generators;
    good = l.good;
    sums = λ v h.
        ap (λ x. (e v ⊕ (l.rest v ⊕ has f v)) ⊕ x) (member_added c.qubits m.correction (has f) b.well_correction v h)
        ∙ sum_both (e v) (l.rest v) (member m.correction v) (has f v)
        ∙ l.sums v h;
  }

  -- a qubit outside the rest is closed
  alive_closed : (m : Model) (v : ℕ) → Booked m → (l : Living m) → l.rest v ≡ false → Living (closed c m v)
  alive_closed m v b l out = record {
    rest = l.rest;
    inside = λ w h.
        member_closed c.qubits m.opened v b.well_opened w (member_below c.qubits m.opened b.well_opened w (l.inside w h))
        ∙ and_from (member m.opened w) (not (eqb v w)) (l.inside w h)
        (⊎_elim (λ k. absurd (both_ways (l.rest w) (ap l.rest (sym (eqb-true v w k)) ∙ out) h)) (λ k. ap not k) (cases_Bool (eqb v w)));
    syndrome = l.syndrome;
    generators = l.generators;
    good = l.good;
    sums = l.sums;
  }

  -- a generator that is all open is added to the rest
  alive_generator : (m : Model) (g : ℕ) → Booked m → g < c.generators → Inside (has (c.of_generator g)) (member m.opened) → Living m → Living m
  alive_generator m g b h wide l = record {
    rest = λ v. l.rest v ⊕ has (c.of_generator g) v;
    inside = λ v. one_of (member m.opened v ≡ true) (l.rest v) (has (c.of_generator g) v) (l.inside v) (wide v);
    syndrome = λ u k.
        parity_add l.rest (has (c.of_generator g)) (c.of_check u)
        ∙ ap₂ ◌⊕◌ (l.syndrome u k) (sound.even u g k h)
        ∙ plus_zero (member m.remaining u);
    generators = g ∷ l.generators;
    good = λ x k.
        ⊎_elim
        (λ s. subst (λ y. (y < c.generators) × Inside (has (c.of_generator y)) erasure) (eqb-true g x s) (h, λ v i. b.opened_inside v (wide v i)))
        (λ s. l.good x s)
        (or_cases (eqb g x) (has l.generators x) k);
    sums = λ v k. sum_one (e v) (l.rest v) (member m.correction v) (has (c.of_generator g) v) ∙ ap (λ x. has (c.of_generator g) v ⊕ x) (l.sums v k);
  }

  -- ---- peel

  module _ (m : Model) (u v : ℕ) (within : u < c.checks) (only : meeting c (member m.opened) u ≡ v ∷ []) where
    -- in the check, a set inside what is open has at most v
    only_v : (s : Set) → Inside s (member m.opened) → (w : ℕ) → has (c.of_check u) w ≡ true → s w ≡ (s v && eqb v w)
    only_v s inside w held =
        ⊎_elim
        (λ k. ap s (sym (eqb-true v w k)) ∙ sym (and-true (s v)) ∙ ap (λ b. s v && b) (sym k))
        (λ k. ⊎_elim
        (λ t. absurd (both_ways (eqb v w) k (sym (in_check c (member m.opened) u v only w) ∙ and_from (has (c.of_check u) w) (member m.opened w) held (inside w t))))
        (λ f. f ∙ sym (and-false (s v)) ∙ ap (λ b. s v && b) (sym k))
        (cases_Bool (s w)))
        (cases_Bool (eqb v w))

    -- so the check remains exactly when v is in the rest
    rest_at_v : (l : Living m) → l.rest v ≡ member m.remaining u
    rest_at_v l =
        sym
        (parity_same l.rest (λ w. l.rest v && eqb v w) (c.of_check u) (only_v l.rest l.inside)
        ∙ parity_scaled (l.rest v) (eqb v) (c.of_check u)
        ∙ ap (λ b. l.rest v && b) (parity_one v (c.of_check u) (sound.by_check.row_apart u within) ∙ (at_one c (member m.opened) u v only).0)
        ∙ and-true (l.rest v))
        ∙ l.syndrome u within

    alive_peel : Booked m → Living m → Living (peel_at c m u v)
    unfolding alive_changed
    alive_peel b l =
        let mid : Model = cond (member m.remaining u) (changed c m (v ∷ [])) m in
        let inside = one_inside c (member m.opened) u v only in
        let P : Model → Type 0 = λ n. Booked n × ((a : Living n) × (a.rest v ≡ false)) in
        let there : P mid = cond_both (member m.remaining u) (changed c m (v ∷ [])) m P
        (λ on. (
          books_changed c sound syndrome erasure m (v ∷ []) b inside,
          (alive_changed m (v ∷ []) b inside l, ap₂ ◌⊕◌ (rest_at_v l ∙ on) (or-false (eqb v v) ∙ eq-eqb v v refl)),
        ))
        (λ off. (b, (l, rest_at_v l ∙ off))) in
        alive_closed mid v there.0 there.1.0 there.1.1

  -- ---- prune

  alive_prune : (m : Model) (g v : ℕ) → Booked m → g < c.generators → has (c.of_generator g) v ≡ true → all_in (member m.opened) (c.of_generator g) ≡ true → Living m → Living (counted (closed c m v))
  unfolding alive_generator
  alive_prune m g v b h held wide l =
      ⊎_elim
      (λ on. let more = alive_generator m g b h (all_in_has (member m.opened) (c.of_generator g) wide) l in alive_closed m v b more (ap₂ ◌⊕◌ on held))
      (λ off. alive_closed m v b l off)
      (cases_Bool (l.rest v))

  -- ---- every move

  abbrev pub Known : Model → Type 0
  Known m = Booked m × Living m

  pub known_keeps : Keeps c Known (λ _. Unit {0})
  known_keeps = record {
    none = tt;
    parted = λ a b _. (tt, tt);
    by_peel = λ m u v k h only. (books_peel c sound syndrome erasure m u v k.0 only, alive_peel m u v h only k.0 k.1);
    by_prune = λ _ m g v k h held wide. (books_closed c sound syndrome erasure m v k.0, alive_prune m g v k.0 h held wide k.1);
    by_flip = λ m f k inside. (books_changed c sound syndrome erasure m f k.0 inside, alive_changed m f k.0 inside k.1);
  }
