-- A move is refused and changes nothing, or it is accepted. Assumes nothing.
use Rattle.std.proofs.Common.{◌≡◌, ℕ, ◌-◌, ◌<◌, true, cond, ◌&&◌, ltb, List, [], ◌∷◌, length, Some, None, Ok, Err, Option, sym, refl, ap, ◌∙◌}
use Rattle.std.proofs.lemmas.Bool.{ltb-true, lt-ltb, and_parts, and_from}
use Rattle.refusals.specs.declared.Refusal.{Refusal}
use Rattle.refusals.specs.Questions.{first_no}
use Rattle.refusals.proofs.Asking.{yes_from_none, none_from_yes}
use Rattle.patterns.specs.Sets.{Inside, has}
use Rattle.patterns.specs.Patterns.{member, weight}
use Rattle.patterns.proofs.Lists.{has_members}
use Rattle.codes.specs.Layouts.{Layout}
use Rattle.scans.specs.Scans.{single, all_in, meeting}
use Rattle.flips.specs.Flips.{open_in, left_by, flip_set}
use Rattle.moves.specs.Jobs.{Model, Outcome, refused_or, pattern_questions, counted, changed, closed}
use Rattle.moves.specs.Moves.{peel_questions, peel_at, peel_by, peel_of, prune_questions, prune_of, flip_questions, flip_by, flip_of}
use Rattle.moves.proofs.Asked.{accepted_at}
use Rattle.moves.proofs.Peels.{single_is}
use Rattle.best_sets.proofs.Laws.{lowering_inside}

-- what holds of a refusal and of what is accepted
pub refused_or_either : {X : Type 0} (R : Outcome X → Type 0) (o : Option Refusal) (m : Model) (r : Outcome X) → ((e : Refusal) → R (Err e, m)) → (o ≡ None → R r) → R (refused_or o m r)
refused_or_either R None m r off on = on refl
refused_or_either R (Some e) m r off on = off e

module _ (c : Layout) (m : Model) where
  pub peel_either : (R : Outcome (ℕ × ℕ) → Type 0) (u : ℕ) → ((e : Refusal) → R (Err e, m))
      → ((v : ℕ) → u < c.checks → meeting c (member m.opened) u ≡ v ∷ [] → R (Ok (v, cond (member m.remaining u) 1 0), peel_at c m u v))
      → R (peel_of c m u)
  peel_either R u off on =
      refused_or_either R (first_no (peel_questions c m u)) m (peel_by c m u (single (meeting c (member m.opened) u))) off
      (λ asked. part (ltb-true u c.checks (yes_from_none (peel_questions c m u) asked).1.1.0) (single (meeting c (member m.opened) u)) refl)
    where
      part : u < c.checks → (o : Option ℕ) → o ≡ single (meeting c (member m.opened) u) → R (peel_by c m u o)
      part h None e = off _
      part h (Some v) e = on v h (single_is (meeting c (member m.opened) u) v e)

  pub prune_either : (R : Outcome (Unit {0}) → Type 0) (g v : ℕ) → ((e : Refusal) → R (Err e, m))
      → (g < c.generators → has (c.of_generator g) v ≡ true → all_in (member m.opened) (c.of_generator g) ≡ true → R (Ok tt, counted (closed c m v)))
      → R (prune_of c m g v)
  prune_either R g v off on =
      refused_or_either R (first_no (prune_questions c m g v)) m (Ok tt, counted (closed c m v)) off
      (λ asked.
      let yes = yes_from_none (prune_questions c m g v) asked in
      on (ltb-true g c.generators (and_parts (ltb g c.generators) (ltb v c.qubits) yes.1.1.0).0) yes.1.1.1.0 yes.1.1.1.1.0)

  -- what a flip changes is open
  pub flip_set_open : (g : ℕ) (f : List ℕ) → flip_set c m.remaining m.opened g ≡ Some f → Inside (has f) (member m.opened)
  flip_set_open g f e v h =
      let held = sym (has_members c.qubits (λ w. has (c.of_generator g) w && member m.opened w) v) ∙ lowering_inside (left_by c m.remaining) (open_in c (member m.opened) g) f e v h in
      (and_parts (has (c.of_generator g) v) (member m.opened v) (and_parts (ltb v c.qubits) (has (c.of_generator g) v && member m.opened v) held).1).1

  pub flip_either : (R : Outcome (ℕ × ℕ) → Type 0) (g : ℕ) → ((e : Refusal) → R (Err e, m))
      → ((f : List ℕ) → flip_set c m.remaining m.opened g ≡ Some f → R (Ok (weight m.remaining - left_by c m.remaining f, length f), counted (changed c m f)))
      → R (flip_of c m g)
  flip_either R g off on =
      refused_or_either R (first_no (flip_questions c m g)) m (flip_by c m (flip_set c m.remaining m.opened g)) off
      (λ _. part (flip_set c m.remaining m.opened g) refl)
    where
      part : (o : Option (List ℕ)) → flip_set c m.remaining m.opened g ≡ o → R (flip_by c m o)
      part None e = off _
      part (Some f) e = on f e

  -- ---- moves that are accepted

  module _ (asked : first_no (pattern_questions c m) ≡ None) where
    pub prune_accepted : (g v : ℕ) → g < c.generators → v < c.qubits → has (c.of_generator g) v ≡ true → all_in (member m.opened) (c.of_generator g) ≡ true
        → ◌≡◌ {A = Outcome (Unit {0})} (Ok tt, counted (closed c m v)) (prune_of c m g v)
    prune_accepted g v hg hv held wide =
        let yes = yes_from_none (pattern_questions c m) asked in
        accepted_at (first_no (prune_questions c m g v)) m (Ok tt, counted (closed c m v))
        (none_from_yes (prune_questions c m g v) (yes.0, (yes.1.0, (and_from (ltb g c.generators) (ltb v c.qubits) (lt-ltb g c.generators hg) (lt-ltb v c.qubits hv), (held, (wide, tt))))))

    pub flip_accepted : (g : ℕ) (f : List ℕ) → g < c.generators → flip_set c m.remaining m.opened g ≡ Some f → flip_by c m (Some f) ≡ flip_of c m g
    flip_accepted g f hg e =
        let yes = yes_from_none (pattern_questions c m) asked in
        sym (ap (flip_by c m) e)
        ∙ accepted_at (first_no (flip_questions c m g)) m (flip_by c m (flip_set c m.remaining m.opened g))
        (none_from_yes (flip_questions c m g) (yes.0, (yes.1.0, (lt-ltb g c.generators hg, tt))))
