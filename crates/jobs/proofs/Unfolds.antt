-- A run has moves enough, so it is the next move and then the run from there. Assumes nothing.
use Rattle.std.proofs.Common.{◌≡◌, ℕ, zero, suc, ◌≤◌, ◌∷◌, Some, None, Option, sym, refl, ap, ◌∙◌, arith}
use Rattle.refusals.specs.Questions.{first_no}
use Rattle.codes.specs.Layouts.{Layout, Sound}
use Rattle.moves.specs.Jobs.{Model, pattern_questions}
use Rattle.jobs.specs.Moving.{Move, moved, next}
use Rattle.jobs.specs.Runs.{onward, moves_of, enough, run_moves}
use Rattle.jobs.proofs.Fits.{moved_fits}
use Rattle.jobs.proofs.Falls.{next_falls}

module _ (c : Layout) (sound : Sound c) where
  abbrev Asked : Model → Type 0
  Asked m = first_no (pattern_questions c m) ≡ None

  -- where nothing is left to take, no move applies
  pub none_left : (m : Model) → Asked m → enough m ≤ 0 → next c m ≡ None
  none_left m asked h = part (next c m) refl
    where
      part : (o : Option Move) → next c m ≡ o → o ≡ None
      part None e = refl
      part (Some k) e = absurd (omega (arith, next_falls c sound m asked k e))

  -- the same moves, however many more were allowed
  same_moves : (i j : ℕ) (m : Model) → Asked m → enough m ≤ i → enough m ≤ j → moves_of i c m ≡ moves_of j c m
  same_moves zero zero m asked hi hj = refl
  same_moves zero (suc j) m asked hi hj = sym (ap (λ o. onward o (λ k. k ∷ moves_of j c (moved c m k))) (none_left m asked hi))
  same_moves (suc i) zero m asked hi hj = ap (λ o. onward o (λ k. k ∷ moves_of i c (moved c m k))) (none_left m asked hj)
  same_moves (suc i) (suc j) m asked hi hj = part (next c m) refl (λ k a b. same_moves i j (moved c m k) (moved_fits c m asked k) a b)
    where
      part : (o : Option Move) → next c m ≡ o → ((k : Move) → enough (moved c m k) ≤ i → enough (moved c m k) ≤ j → moves_of i c (moved c m k) ≡ moves_of j c (moved c m k))
          → onward o (λ k. k ∷ moves_of i c (moved c m k)) ≡ onward o (λ k. k ∷ moves_of j c (moved c m k))
      part None e rest = refl
      part (Some k) e rest = let falls = next_falls c sound m asked k e in ap (λ ks. k ∷ ks) (rest k (omega arith) (omega arith))

-- a run is its next move, and the run from there
pub run_unfolds : (c : Layout) → Sound c → (m : Model) → first_no (pattern_questions c m) ≡ None → run_moves c m ≡ onward (next c m) (λ k. k ∷ run_moves c (moved c m k))
run_unfolds c sound m asked = same_moves c sound (enough m) (suc (enough m)) m asked (omega arith) (omega arith) ∙ part (next c m) refl
  where
    part : (o : Option Move) → next c m ≡ o → onward o (λ k. k ∷ moves_of (enough m) c (moved c m k)) ≡ onward o (λ k. k ∷ run_moves c (moved c m k))
    part None e = refl
    part (Some k) e =
        let falls = next_falls c sound m asked k e in
        ap (λ ks. k ∷ ks) (same_moves c sound (enough m) (enough (moved c m k)) (moved c m k) (moved_fits c m asked k) (omega arith) (omega arith))
