-- Jobs whose patterns are well formed, and that every move leaves them so. Assumes nothing.
use Rattle.std.proofs.Common.{◌≡◌, ℕ, ◌+◌, ◌*◌, ◌≤◌, cond, ◌&&◌, eqb, List, [], ◌∷◌, None, arith}
use Rattle.std.proofs.lemmas.Bool.{and_parts, and_from, cond_both}
use Rattle.refusals.specs.Questions.{first_no}
use Rattle.refusals.proofs.Asking.{yes_from_none, none_from_yes}
use Rattle.patterns.specs.Sets.{has, parity}
use Rattle.patterns.specs.Patterns.{member, fitting, tidy, Well}
use Rattle.patterns.proofs.Added.{well_added}
use Rattle.codes.specs.Layouts.{Layout}
use Rattle.moves.specs.Jobs.{Model, counted, changed, closed, pattern_questions}
use Rattle.moves.proofs.Asked.{lengths_asked}
use Rattle.jobs.specs.Moving.{Move, moved}
use Rattle.jobs.specs.Runs.{enough}
use Rattle.jobs.proofs.Counts.{weight_most}
use Rattle.jobs.proofs.Keeping.{Keeps, moved_keeps}

-- the three patterns are well formed
pub record Fits (c : Layout) (m : Model) : Type 0 where
  pub of_remaining : Well c.checks m.remaining
  pub of_opened : Well c.qubits m.opened
  pub of_correction : Well c.qubits m.correction

module _ (c : Layout) where
  pub fits_asked : (m : Model) → first_no (pattern_questions c m) ≡ None → Fits c m
  fits_asked m asked =
      let long = lengths_asked c m asked in
      let first = and_parts (tidy c.checks m.remaining) (tidy c.qubits m.opened && tidy c.qubits m.correction) (yes_from_none (pattern_questions c m) asked).1.0 in
      let rest = and_parts (tidy c.qubits m.opened) (tidy c.qubits m.correction) first.1 in
      record {
        of_remaining = record { long = long.remaining; clean = first.0 };
        of_opened = record { long = long.opened; clean = rest.0 };
        of_correction = record { long = long.correction; clean = rest.1 };
      }

  pub asked_fits : (m : Model) → Fits c m → first_no (pattern_questions c m) ≡ None
  asked_fits m f =
      none_from_yes (pattern_questions c m) (
        and_from (fitting c.checks m.remaining) (fitting c.qubits m.opened && fitting c.qubits m.correction) f.of_remaining.long
            (and_from (fitting c.qubits m.opened) (fitting c.qubits m.correction) f.of_opened.long f.of_correction.long),
        (
          and_from (tidy c.checks m.remaining) (tidy c.qubits m.opened && tidy c.qubits m.correction) f.of_remaining.clean
              (and_from (tidy c.qubits m.opened) (tidy c.qubits m.correction) f.of_opened.clean f.of_correction.clean),
          tt,
        ),
      )

  fits_counted : (m : Model) → Fits c m → Fits c (counted m)
  fits_counted m f = record { of_remaining = f.of_remaining; of_opened = f.of_opened; of_correction = f.of_correction }

  fits_changed : (m : Model) (s : List ℕ) → Fits c m → Fits c (changed c m s)
  fits_changed m s f = record {
    of_remaining = well_added c.checks m.remaining (λ u. parity (has s) (c.of_check u)) f.of_remaining;
    of_opened = f.of_opened;
    of_correction = well_added c.qubits m.correction (has s) f.of_correction;
  }

  fits_closed : (m : Model) (v : ℕ) → Fits c m → Fits c (closed c m v)
  fits_closed m v f = record {
    of_remaining = f.of_remaining;
    of_opened = well_added c.qubits m.opened (λ w. eqb v w && member m.opened w) f.of_opened;
    of_correction = f.of_correction;
  }

  pub fits_keeps : Keeps c (Fits c) (λ _. Unit {0})
  fits_keeps = record {
    none = tt;
    parted = λ a b _. (tt, tt);
    by_peel = λ m u v f h only.
        let mid : Model = cond (member m.remaining u) (changed c m (v ∷ [])) m in
        fits_counted (closed c mid v) (fits_closed mid v (cond_both (member m.remaining u) (changed c m (v ∷ [])) m (Fits c) (λ _. fits_changed m (v ∷ []) f) (λ _. f)));
    by_prune = λ _ m g v f h held wide. fits_counted (closed c m v) (fits_closed m v f);
    by_flip = λ m s f inside. fits_counted (changed c m s) (fits_changed m s f);
  }

-- a move leaves the patterns well formed
pub moved_fits : (c : Layout) (m : Model) → first_no (pattern_questions c m) ≡ None → (k : Move) → first_no (pattern_questions c (moved c m k)) ≡ None
moved_fits c m asked k = asked_fits c (moved c m k) (moved_keeps c (Fits c) (λ _. Unit {0}) (fits_keeps c) m (fits_asked c m asked) k tt)

-- what bounds the moves of a run is small
pub enough_small : (c : Layout) (m : Model) → first_no (pattern_questions c m) ≡ None → enough m ≤ 11 * c.qubits + c.checks
enough_small c m asked =
    let f = fits_asked c m asked in
    omega (arith, weight_most c.qubits m.opened f.of_opened, weight_most c.checks m.remaining f.of_remaining)
