-- What is done with a job keeps the lengths of its patterns. Assumes nothing.
use Rattle.std.proofs.Common.{◌≡◌, ℕ, false, List, [], ◌∷◌, length, Some, None, Ok, Option, sym, refl, ◌∙◌, subst}
use Rattle.std.proofs.lemmas.Bool.{eqb-true}
use Rattle.refusals.specs.declared.Refusal.{Refusal}
use Rattle.refusals.specs.Questions.{first_no}
use Rattle.refusals.proofs.Asking.{first_no_front}
use Rattle.patterns.specs.Patterns.{width, Well}
use Rattle.patterns.proofs.Packed.{length_pattern}
use Rattle.codes.specs.Layouts.{Layout}
use Rattle.moves.specs.Jobs.{Model, pattern_questions, opening, opening_questions, open_of}
use Rattle.moves.proofs.Asked.{remaining_fits, opened_fits, correction_width}
use Rattle.jobs.specs.Moving.{peel, prune, flip}
use Rattle.jobs.specs.Calls.{Call as Asked, move, run, ask, call}
use Rattle.jobs.proofs.Outcomes.{refused_or_either}
use Rattle.jobs.proofs.Keeping.{after_keeps}
use Rattle.jobs.proofs.Fits.{Fits, fits_asked, fits_keeps}
use Rattle.foreign.specs.declared.calling.Task.{Task}
use Rattle.foreign.specs.declared.calling.Task.TheVariants.{Call, Open}
use Rattle.foreign.specs.Calling.{meant}
use Rattle.foreign.specs.Tasks.{done}

-- the patterns of two jobs have the same lengths
pub record Kept (m n : Model) : Type 0 where
  pub remaining : length m.remaining ≡ length n.remaining
  pub opened : length m.opened ≡ length n.opened
  pub correction : length m.correction ≡ length n.correction

kept_same : (m : Model) → Kept m m
kept_same m = record { remaining = refl; opened = refl; correction = refl }

well_lengths : (k : ℕ) (p q : List ℕ) → Well k p → Well k q → length p ≡ length q
well_lengths k p q a b = eqb-true (length p) (width k) a.long ∙ sym (eqb-true (length q) (width k) b.long)

module _ (c : Layout) (m : Model) where
  kept_fits : (n : Model) → Fits c m → Fits c n → Kept m n
  kept_fits n a b = record {
    remaining = well_lengths c.checks m.remaining n.remaining a.of_remaining b.of_remaining;
    opened = well_lengths c.qubits m.opened n.opened a.of_opened b.of_opened;
    correction = well_lengths c.qubits m.correction n.correction a.of_correction b.of_correction;
  }

  accepted_kept : (k : Asked) → first_no (pattern_questions c m) ≡ None → Kept m (call c m k).1
  accepted_kept k asked = kept_fits (call c m k).1 (fits_asked c m asked) (after_keeps c (Fits c) (λ _. Unit {0}) (fits_keeps c) (k ∷ []) m (fits_asked c m asked) tt)

  refused_kept : (k : Asked) (e : Refusal) → first_no (pattern_questions c m) ≡ Some e → (call c m k).1 ≡ m
  refused_kept (move (peel u)) e said = rw (first_no_front (pattern_questions c m) _ e said) refl
  refused_kept (move (prune g v)) e said = rw (first_no_front (pattern_questions c m) _ e said) refl
  refused_kept (move (flip g)) e said = rw (first_no_front (pattern_questions c m) _ e said) refl
  refused_kept run e said = rw said refl
  refused_kept ask e said = rw said refl

  call_kept : (k : Asked) → Kept m (call c m k).1
  call_kept k = part (first_no (pattern_questions c m)) refl
    where
      part : (o : Option Refusal) → first_no (pattern_questions c m) ≡ o → Kept m (call c m k).1
      part None asked = accepted_kept k asked
      part (Some e) said = subst (Kept m) (sym (refused_kept k e said)) (kept_same m)

  open_kept : (syndrome erasure : List ℕ) → Kept m (open_of c m syndrome erasure).1
  open_kept s e =
      refused_or_either (λ r. Kept m r.1) (first_no (opening_questions c m s e)) m (Ok tt, opening c s e) (λ _. kept_same m)
      (λ asked. record {
        remaining = remaining_fits c m s e asked;
        opened = opened_fits c m s e asked;
        correction = correction_width c m s e asked ∙ sym (length_pattern c.qubits (λ _. false));
      })

  pub done_kept : (t : Task) → Kept m (done c m t).1
  done_kept (Call k) = call_kept (meant k)
  done_kept (Open s e) = open_kept s.now e.now
