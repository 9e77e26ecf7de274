-- Peels and prunes one after another: where the next one is looked for, and which it is. Assumes nothing.
use Rattle.std.specs.Prelude.{◌≡◌, ℕ, ◌∷◌, Some, None, Option}
use Rattle.patterns.specs.Patterns.{member}
use Rattle.codes.specs.Layouts.{Layout}
use Rattle.codes.specs.declared.code.Check.{Check}
use Rattle.codes.specs.declared.code.Qubit.{Qubit}
use Rattle.scans.specs.Scans.{single, meeting}
use Rattle.moves.specs.Jobs.{Model}
use Rattle.jobs.specs.declared.closing.Closing.{Closing}
use Rattle.jobs.specs.declared.closing.Closing.TheVariants.{Peel, Prune}
use Rattle.jobs.specs.declared.closing.Cursors.{Cursors}
use Rattle.jobs.specs.Choosing.{lowest, least}
use Rattle.jobs.specs.Moving.{Move, peel, prune, dangling, wholly_open}

-- a step by the numbers of its check, its generator and its qubit
abbrev pub as_move : Closing → Move
as_move (Peel u v) = peel u.0
as_move (Prune g v) = prune g.0 v.0

-- the qubit that a step closes
abbrev pub shut_by : Closing → ℕ
shut_by (Peel u v) = v.0
shut_by (Prune g v) = v.0

-- a check that was found, with its one open qubit
abbrev pub OpenAt : Layout → Model → Option (Check × Qubit) → Type 0
OpenAt c m None = Unit {0}
OpenAt c m (Some p) = Some p.1.0 ≡ single (meeting c (member m.opened) p.0.0)

-- nothing is to be done below the cursors
pub record Passed (c : Layout) (m : Model) (from : Cursors) : Type 0 where
  pub peeled : lowest from.check (dangling c m) ≡ None
  pub pruned : lowest from.generator (wholly_open c m) ≡ None

-- no check is dangling, and no generator wholly open
pub record NothingCloses (c : Layout) (m : Model) : Type 0 where
  pub none_dangles : lowest c.checks (dangling c m) ≡ None
  pub none_open : lowest c.generators (wholly_open c m) ≡ None

-- the lowest dangling check with its open qubit; else the lowest generator that is wholly open, with its lowest qubit
abbrev pub NextClosing : Layout → Model → Option Closing → Type 0
NextClosing c m None = NothingCloses c m
NextClosing c m (Some (Peel u v)) = (Some u.0 ≡ lowest c.checks (dangling c m)) × (Some v.0 ≡ single (meeting c (member m.opened) u.0))
NextClosing c m (Some (Prune g v)) = (None ≡ lowest c.checks (dangling c m)) × (Some g.0 ≡ lowest c.generators (wholly_open c m)) × (v.0 ≡ least (c.of_generator g.0))

-- the cursors after a step: only the checks of the closed qubit can have become dangling
abbrev pub cursors_after : Layout → Cursors → Closing → Cursors
cursors_after c from (Peel u v) = record { check = least (u.0 ∷ c.checks_of v.0); generator = from.generator }
cursors_after c from (Prune g v) = record { check = least (c.checks ∷ c.checks_of v.0); generator = g.0 }
