-- Lists of calls on a job: what they leave and what they answer. Assumes nothing.
use Rattle.std.specs.Prelude.{ℕ, List, [], ◌∷◌, Ok, Err}
use Rattle.refusals.specs.declared.Refusal.{Refusal}
use Rattle.verdicts.specs.declared.Verdict.{Verdict}
use Rattle.codes.specs.Layouts.{Layout}
use Rattle.moves.specs.Jobs.{Model, Outcome}
use Rattle.moves.specs.Moves.{peel_of, prune_of, flip_of}
use Rattle.jobs.specs.declared.answers.Run.{Run}
use Rattle.jobs.specs.Moving.{Move, peel, prune, flip}
use Rattle.jobs.specs.Verdicts.{verdict_of}
use Rattle.jobs.specs.Runs.{run_of}

-- a move with any numbers, a run, or the question for the verdict
pub data Call : Type 0 where
  move : Move → Call
  run : Call
  ask : Call

-- what a call answers
pub data Answer : Type 0 where
  refused : Refusal → Answer
  peeled : ℕ → ℕ → Answer
  pruned : Answer
  flipped : ℕ → ℕ → Answer
  ran : Run → Answer
  told : Verdict → Answer

-- an outcome with its answer as one of these
abbrev pub answered_by : {X : Type 0} → (X → Answer) → Outcome X → Answer × Model
answered_by f (Ok x, m) = (f x, m)
answered_by f (Err e, m) = (refused e, m)

abbrev pub call : Layout → Model → Call → Answer × Model
call c m (move (peel u)) = answered_by (λ p. peeled p.0 p.1) (peel_of c m u)
call c m (move (prune g v)) = answered_by (λ _. pruned) (prune_of c m g v)
call c m (move (flip g)) = answered_by (λ p. flipped p.0 p.1) (flip_of c m g)
call c m run = answered_by ran (run_of c m)
call c m ask = answered_by told (verdict_of c m)

-- what calls leave, one after another
abbrev pub after : Layout → Model → List Call → Model
after c m [] = m
after c m (k ∷ ks) = after c (call c m k).1 ks

-- what they answer
abbrev pub answers : Layout → Model → List Call → List Answer
answers c m [] = []
answers c m (k ∷ ks) = (call c m k).0 ∷ answers c (call c m k).1 ks
