-- Runs: one move after another until none applies. Assumes nothing.
use Rattle.std.specs.Prelude.{ℕ, zero, suc, ◌+◌, ◌*◌, List, [], ◌∷◌, Some, None, Ok, Option}
use Rattle.refusals.specs.Questions.{first_no}
use Rattle.patterns.specs.Patterns.{weight}
use Rattle.codes.specs.Layouts.{Layout}
use Rattle.moves.specs.Jobs.{Model, Outcome, refused_or, pattern_questions}
use Rattle.jobs.specs.declared.answers.Run.{Run}
use Rattle.jobs.specs.Moving.{Move, peel, prune, flip, moved, moved_all, next}
use Rattle.jobs.specs.Verdicts.{verdict}

-- the moves from the next one on, if there is a next one
abbrev pub onward : Option Move → (Move → List Move) → List Move
onward None f = []
onward (Some k) f = f k

-- the moves of a run, n at most
abbrev pub moves_of : ℕ → Layout → Model → List Move
moves_of zero c m = []
moves_of (suc n) c m = onward (next c m) (λ k. k ∷ moves_of n c (moved c m k))

-- no run has more moves: a peel takes an open qubit and adds at most ten to the weight, a prune takes an open qubit, a flip lowers the weight
abbrev pub enough : Model → ℕ
enough m = 11 * weight m.opened + weight m.remaining

-- the moves of a run
abbrev pub run_moves : Layout → Model → List Move
run_moves c m = moves_of (enough m) c m

abbrev pub peels : List Move → ℕ
peels [] = 0
peels (peel u ∷ ks) = 1 + peels ks
peels (prune g v ∷ ks) = peels ks
peels (flip g ∷ ks) = peels ks

abbrev pub prunes : List Move → ℕ
prunes [] = 0
prunes (peel u ∷ ks) = prunes ks
prunes (prune g v ∷ ks) = 1 + prunes ks
prunes (flip g ∷ ks) = prunes ks

abbrev pub flips : List Move → ℕ
flips [] = 0
flips (peel u ∷ ks) = flips ks
flips (prune g v ∷ ks) = flips ks
flips (flip g ∷ ks) = 1 + flips ks

-- how many moves of each kind there were, and the verdict after them
abbrev pub run_by : Layout → Model → List Move → Outcome Run
run_by c m ks =
    let after = moved_all c m ks in
    (Ok (record { peels = peels ks; prunes = prunes ks; flips = flips ks; verdict = verdict c after }), after)

abbrev pub run_of : Layout → Model → Outcome Run
run_of c m = refused_or (first_no (pattern_questions c m)) m (run_by c m (run_moves c m))
