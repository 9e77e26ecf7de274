-- The laws of runs and of verdicts. Assumes nothing.
use Rattle.std.specs.Prelude.{◌≡◌, ℕ, ◌+◌, ◌<◌, ◌≤◌, min, Bool, true, false, List, [], ◌∷◌, length, None, ◌≢◌}
use Rattle.refusals.specs.declared.Refusal.{Refusal}
use Rattle.refusals.specs.Questions.{first_no}
use Rattle.verdicts.specs.declared.Verdict.TheVariants.{Moving, Stalled}
use Rattle.patterns.specs.Patterns.{member}
use Rattle.codes.specs.Layouts.{Layout}
use Rattle.moves.specs.Jobs.{Model, most_moves, pattern_questions}
use Rattle.jobs.specs.Moving.{Move, peel, prune, flip, moved, moved_all, next}
use Rattle.jobs.specs.Verdicts.{unmet, verdict}
use Rattle.jobs.specs.Runs.{run_moves, peels, prunes, flips}
use Rattle.jobs.specs.Calls.{move, refused, call}

-- ---- runs

-- none of the moves is refused, made one after another
abbrev pub AllAccepted : Layout → Model → List Move → Type 0
AllAccepted c m [] = Unit {0}
AllAccepted c m (k ∷ ks) = ((e : Refusal) → (call c m (move k)).0 ≢ refused e) × AllAccepted c (moved c m k) ks

-- whether every move is a flip
abbrev pub only_flips : List Move → Bool
only_flips [] = true
only_flips (peel u ∷ ks) = false
only_flips (prune g v ∷ ks) = false
only_flips (flip g ∷ ks) = only_flips ks

-- whether peels and prunes come first, and flips after
abbrev pub flips_last : List Move → Bool
flips_last [] = true
flips_last (peel u ∷ ks) = flips_last ks
flips_last (prune g v ∷ ks) = flips_last ks
flips_last (flip g ∷ ks) = only_flips ks

-- what is asked of the moves of a run
pub record WholeRun (c : Layout) (m : Model) (ks : List Move) : Type 0 where
  -- none is refused
  pub accepted : AllAccepted c m ks
  -- after them no move applies
  pub none_applies : next c (moved_all c m ks) ≡ None
  -- and the verdict is another than that the job moves
  pub not_moving : verdict c (moved_all c m ks) ≡ Moving → ⊥
  -- the three counts add up to the number of moves
  pub counts_add_up : peels ks + prunes ks + flips ks ≡ length ks
  -- the job's count of moves grows by that number, up to its limit
  pub count_grows : m.moves ≤ most_moves → (moved_all c m ks).moves ≡ min (m.moves + length ks) most_moves
  -- peels and prunes come before flips
  pub flips_come_last : flips_last ks ≡ true

-- a run of any job whose patterns are well formed ends where no move applies
abbrev pub RunEnds : Layout → Type 0
RunEnds c = (m : Model) → first_no (pattern_questions c m) ≡ None → WholeRun c m (run_moves c m)

-- ---- verdicts

-- something remains, no move applies, and nothing is contradicted
pub record Stuck (c : Layout) (m : Model) : Type 0 where
  -- a check is in the remaining syndrome
  pub something_remains : (u : ℕ) × (u < c.checks) × (member m.remaining u ≡ true)
  -- there is no next move
  pub none_applies : next c m ≡ None
  -- no check of the remaining syndrome is without an open qubit
  pub not_contradicted : (u : ℕ) → u < c.checks → unmet c m u ≡ false

-- a job is stalled exactly when it is stuck
abbrev pub StalledExactly : Layout → Type 0
StalledExactly c = (m : Model) → (verdict c m ≡ Stalled → Stuck c m) × (Stuck c m → verdict c m ≡ Stalled)
