-- What verdicts tell. Assumes nothing.
use Rattle.std.proofs.Common.{◌≡◌, ℕ, ◌<◌, Bool, true, false, cond, not, ◌&&◌, ◌||◌, List, [], ◌∷◌, is_some, None, filter, sym, refl, ap, ◌∙◌, ap₂}
use mathlib.Core.Bool.{and-true}
use Rattle.std.proofs.lemmas.Bool.{both_ways, and_parts, or_from, or_parts, not-true, not-false, not_from_true}
use Rattle.verdicts.specs.declared.Verdict.{Verdict}
use Rattle.verdicts.specs.declared.Verdict.TheVariants.{Contradicted, Settled, Moving, Matched, Stalled}
use Rattle.patterns.specs.Sets.{Set, has}
use Rattle.patterns.specs.Patterns.{member}
use Rattle.codes.specs.Layouts.{Layout, Sound}
use Rattle.scans.specs.Scans.{is_empty, meeting}
use Rattle.moves.specs.Jobs.{Model}
use Rattle.moves.proofs.Peels.{has_kept}
use Rattle.jobs.specs.Choosing.{or_else, lowest, some_below}
use Rattle.jobs.specs.Moving.{next_peel, next_prune, next_flip, next}
use Rattle.jobs.specs.Verdicts.{unmet, first_that_fits, verdict}
use Rattle.jobs.specs.Laws.{Stuck, StalledExactly}
use Rattle.jobs.proofs.Picks.{some_is, none_is, or_else_none, lowest_some, lowest_none, none_below, found_below, empty_is, some_in}

-- ---- the five tests in their order

five : Bool → Bool → Bool → Bool → Bool → Verdict
five a b d e f = first_that_fits ((a, Contradicted) ∷ (b, Settled) ∷ (d, Moving) ∷ (e, Matched) ∷ (f, Moving) ∷ []) Stalled

at_settled : (a b d e f : Bool) → five a b d e f ≡ Settled → (a ≡ false) × (b ≡ true)
unfolding five
at_settled true b d e f h = absurd (cc)
at_settled false true d e f h = (refl, refl)
at_settled false false true e f h = absurd (cc)
at_settled false false false true f h = absurd (cc)
at_settled false false false false true h = absurd (cc)
at_settled false false false false false h = absurd (cc)

at_contradicted : (a b d e f : Bool) → five a b d e f ≡ Contradicted → a ≡ true
unfolding five
at_contradicted true b d e f h = refl
at_contradicted false true d e f h = absurd (cc)
at_contradicted false false true e f h = absurd (cc)
at_contradicted false false false true f h = absurd (cc)
at_contradicted false false false false true h = absurd (cc)
at_contradicted false false false false false h = absurd (cc)

-- without the two tests for moves
at_still : (a b d e f : Bool) → d ≡ false → f ≡ false → five a b d e f ≡ Moving → ⊥
unfolding five
at_still true b d e f p q h = cc
at_still false true d e f p q h = cc
at_still false false true e f p q h = both_ways true p refl
at_still false false false true f p q h = cc
at_still false false false false true p q h = both_ways true q refl
at_still false false false false false p q h = cc

-- every test fails
pub record Fails (a b d e f : Bool) : Type 0 where
  pub first : a ≡ false
  pub second : b ≡ false
  pub third : d ≡ false
  pub fourth : e ≡ false
  pub fifth : f ≡ false

at_stalled : (a b d e f : Bool) → five a b d e f ≡ Stalled → Fails a b d e f
unfolding five
at_stalled true b d e f h = absurd (cc)
at_stalled false true d e f h = absurd (cc)
at_stalled false false true e f h = absurd (cc)
at_stalled false false false true f h = absurd (cc)
at_stalled false false false false true h = absurd (cc)
at_stalled false false false false false h = record { first = refl; second = refl; third = refl; fourth = refl; fifth = refl }

to_stalled : (a b d e f : Bool) → Fails a b d e f → five a b d e f ≡ Stalled
unfolding five
to_stalled a b d e f h = rw (h.first, h.second, h.third, h.fourth, h.fifth) refl

-- ---- a job's verdict

-- a list of which nothing is in the set
kept_none : (s : Set) (xs : List ℕ) → ((v : ℕ) → s v ≡ false) → is_empty (filter s xs) ≡ true
kept_none s [] h = refl
kept_none s (x ∷ xs) h = ap (λ b. is_empty (cond b (x ∷ filter s xs) (filter s xs))) (h x) ∙ kept_none s xs h

module _ (c : Layout) (m : Model) where
  abbrev contradicts : Bool
  contradicts = some_below c.checks (unmet c m)

  abbrev nothing_open : Bool
  nothing_open = not (some_below c.qubits (member m.opened))

  abbrev can_close : Bool
  can_close = is_some (next_peel c m) || is_some (next_prune c m)

  abbrev nothing_remains : Bool
  nothing_remains = not (some_below c.checks (member m.remaining))

  abbrev can_flip : Bool
  can_flip = is_some (next_flip c m)

  as_five : verdict c m ≡ five contradicts nothing_open can_close nothing_remains can_flip
  unfolding five
  as_five = refl

  -- nothing is open in a settled job
  pub settled_open : verdict c m ≡ Settled → (v : ℕ) → v < c.qubits → member m.opened v ≡ false
  settled_open e v h =
      lowest_none c.qubits (member m.opened)
      (not-true (some_below c.qubits (member m.opened)) (at_settled contradicts nothing_open can_close nothing_remains can_flip (sym as_five ∙ e)).1) v h

  -- and nothing remains
  pub settled_remaining : verdict c m ≡ Settled → ((v : ℕ) → member m.opened v ≡ false) → (u : ℕ) → u < c.checks → member m.remaining u ≡ false
  settled_remaining e shut u h =
      sym (and-true (member m.remaining u))
      ∙ ap (λ b. member m.remaining u && b) (sym (kept_none (member m.opened) (c.of_check u) shut))
      ∙ lowest_none c.checks (unmet c m) (at_settled contradicts nothing_open can_close nothing_remains can_flip (sym as_five ∙ e)).0 u h

  -- in a contradicted job a check remains, and none of its qubits is open
  pub contradicted_at : verdict c m ≡ Contradicted → (u : ℕ) × (u < c.checks) × (member m.remaining u ≡ true) × ((v : ℕ) → has (c.of_check u) v ≡ true → member m.opened v ≡ false)
  contradicted_at e =
      let some = some_is (lowest c.checks (unmet c m)) (at_contradicted contradicts nothing_open can_close nothing_remains can_flip (sym as_five ∙ e)) in
      let u = some.0 in
      let at = lowest_some c.checks (unmet c m) u some.1 in
      let parts = and_parts (member m.remaining u) (is_empty (meeting c (member m.opened) u)) at.1 in (
        u,
        at.0,
        parts.0,
        λ v held.
            sym (ap (λ b. b && member m.opened v) held)
            ∙ sym (has_kept (member m.opened) (c.of_check u) v)
            ∙ ap (λ l. has l v) (empty_is (meeting c (member m.opened) u) parts.1),
      )

  -- ---- where no move applies

  no_moves : next c m ≡ None → (can_close ≡ false) × (can_flip ≡ false)
  no_moves e =
      let one = or_else_none (next_peel c m) (or_else (next_prune c m) (next_flip c m)) e in
      let two = or_else_none (next_prune c m) (next_flip c m) one.1 in
      (or_from (is_some (next_peel c m)) (is_some (next_prune c m)) (ap is_some one.0) (ap is_some two.0), ap is_some two.1)

  no_next : can_close ≡ false → can_flip ≡ false → next c m ≡ None
  no_next e f =
      let both = or_parts (is_some (next_peel c m)) (is_some (next_prune c m)) e in
      ap₂ or_else (none_is (next_peel c m) both.0) (ap₂ or_else (none_is (next_prune c m) both.1) (none_is (next_flip c m) f))

  -- the job does not move
  pub still : next c m ≡ None → verdict c m ≡ Moving → ⊥
  still e v = let none = no_moves e in at_still contradicts nothing_open can_close nothing_remains can_flip none.0 none.1 (sym as_five ∙ v)

  -- ---- stalled

  stuck_from : verdict c m ≡ Stalled → Stuck c m
  stuck_from v =
      let fails = at_stalled contradicts nothing_open can_close nothing_remains can_flip (sym as_five ∙ v) in
      let some = some_is (lowest c.checks (member m.remaining)) (not-false (some_below c.checks (member m.remaining)) fails.fourth) in
      let at = lowest_some c.checks (member m.remaining) some.0 some.1 in
      record {
        something_remains = (some.0, at.0, at.1);
        none_applies = no_next fails.third fails.fifth;
        not_contradicted = lowest_none c.checks (unmet c m) fails.first;
      }

  -- a check that remains and is met has an open qubit
  met_open : Sound c → (u : ℕ) → u < c.checks → member m.remaining u ≡ true → unmet c m u ≡ false → some_below c.qubits (member m.opened) ≡ true
  met_open sound u h on met =
      let met' : is_empty (meeting c (member m.opened) u) ≡ false = sym (ap (λ b. b && is_empty (meeting c (member m.opened) u)) on) ∙ met in
      let v = some_in (meeting c (member m.opened) u) met' in
      let both = and_parts (has (c.of_check u) v.0) (member m.opened v.0) (sym (has_kept (member m.opened) (c.of_check u) v.0) ∙ v.1) in
      found_below c.qubits (member m.opened) v.0 (sound.by_check.row_within u v.0 h both.0) both.1

  stalled_from : Sound c → Stuck c m → verdict c m ≡ Stalled
  stalled_from sound s =
      let u = s.something_remains in
      let none = no_moves s.none_applies in
      as_five
      ∙ to_stalled contradicts nothing_open can_close nothing_remains can_flip
      (record {
        first = none_below c.checks (unmet c m) s.not_contradicted;
        second = not_from_true (some_below c.qubits (member m.opened)) (met_open sound u.0 u.1 u.2 (s.not_contradicted u.0 u.1));
        third = none.0;
        fourth = not_from_true (some_below c.checks (member m.remaining)) (found_below c.checks (member m.remaining) u.0 u.1 u.2);
        fifth = none.1;
      })

-- the law of the verdict of a stalled job
pub stalled_exactly : (c : Layout) → Sound c → StalledExactly c
stalled_exactly c sound m = (stuck_from c m, stalled_from c m sound)
