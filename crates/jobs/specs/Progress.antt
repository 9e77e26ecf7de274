-- A run in progress: the moves counted so far, and those to come. Assumes nothing.
use Rattle.std.specs.Prelude.{◌≡◌, ℕ, ◌+◌, ◌≤◌, List, [], ◌∷◌, None}
use Rattle.refusals.specs.Questions.{first_no}
use Rattle.codes.specs.Layouts.{Layout}
use Rattle.moves.specs.Jobs.{Model, pattern_questions}
use Rattle.jobs.specs.declared.counting.Counts.{Counts}
use Rattle.jobs.specs.Moving.{Move, peel, prune, flip, moved_all}
use Rattle.jobs.specs.Runs.{enough, run_moves, peels, prunes, flips}

-- the counts of moves of each kind
abbrev pub counts_of : List Move → Counts
counts_of ks = record { peels = peels ks; prunes = prunes ks; flips = flips ks }

-- the counts with one move more
abbrev pub with_move : Counts → Move → Counts
with_move n (peel u) = record { peels = n.peels + 1; prunes = n.prunes; flips = n.flips }
with_move n (prune g v) = record { peels = n.peels; prunes = n.prunes + 1; flips = n.flips }
with_move n (flip g) = record { peels = n.peels; prunes = n.prunes; flips = n.flips + 1 }

-- the counts with the moves of a list, one after another
abbrev pub with_all : Counts → List Move → Counts
with_all n [] = n
with_all n (k ∷ ks) = with_all (with_move n k) ks

abbrev pub none_yet : Counts
none_yet = record { peels = 0; prunes = 0; flips = 0 }

abbrev pub together : Counts → ℕ
together n = n.peels + n.prunes + n.flips

-- A run that was at `start`, with n₀ moves counted, has come to m, with n counted.
pub record Came (c : Layout) (n₀ : Counts) (start : Model) (n : Counts) (m : Model) : Type 0 where
  -- the patterns are well formed
  pub asked : first_no (pattern_questions c m) ≡ None
  -- moves and what is left to take are no more than there was at first
  pub few : together n + enough m ≤ together n₀ + enough start
  -- the counts will be the same
  pub counts : with_all n (run_moves c m) ≡ with_all n₀ (run_moves c start)
  -- and so will be what is left
  pub after : moved_all c m (run_moves c m) ≡ moved_all c start (run_moves c start)
