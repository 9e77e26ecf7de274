-- Which move applies to a job, and what moves make of it. Assumes nothing.
use Rattle.std.specs.Prelude.{ℕ, Bool, not, ◌&&◌, List, [], ◌∷◌, is_some, Option}
use Rattle.std.specs.Option.{option_map}
use Rattle.patterns.specs.Sets.{Set}
use Rattle.patterns.specs.Patterns.{member}
use Rattle.codes.specs.Layouts.{Layout}
use Rattle.scans.specs.Scans.{single, is_empty, all_in, meeting}
use Rattle.flips.specs.Flips.{flip_set}
use Rattle.moves.specs.Jobs.{Model}
use Rattle.moves.specs.Moves.{peel_of, prune_of, flip_of}
use Rattle.jobs.specs.Choosing.{or_else, lowest, least}

-- a peel of a check, a prune of a generator at a qubit, a flip of a generator
pub data Move : Type 0 where
  peel : ℕ → Move
  prune : ℕ → ℕ → Move
  flip : ℕ → Move

-- what a move leaves
abbrev pub moved : Layout → Model → Move → Model
moved c m (peel u) = (peel_of c m u).1
moved c m (prune g v) = (prune_of c m g v).1
moved c m (flip g) = (flip_of c m g).1

-- what moves leave, one after another
abbrev pub moved_all : Layout → Model → List Move → Model
moved_all c m [] = m
moved_all c m (k ∷ ks) = moved_all c (moved c m k) ks

-- whether check u meets the set in just one qubit
abbrev pub meets_in_one : Layout → Set → ℕ → Bool
meets_in_one c s u = is_some (single (meeting c s u))

-- a check is dangling when just one of its qubits is open
abbrev pub dangling : Layout → Model → Set
dangling c m u = meets_in_one c (member m.opened) u

-- whether generator g has qubits, and all are open
abbrev pub wholly_open : Layout → Model → Set
wholly_open c m g = not (is_empty (c.of_generator g)) && all_in (member m.opened) (c.of_generator g)

-- whether generator g has a set of open qubits that lowers the weight
abbrev pub lowerable : Layout → Model → Set
lowerable c m g = is_some (flip_set c m.remaining m.opened g)

-- a peel of the lowest dangling check
abbrev pub next_peel : Layout → Model → Option Move
next_peel c m = option_map peel (lowest c.checks (dangling c m))

-- a prune of the lowest non-empty generator that is all open, at its lowest qubit
abbrev pub next_prune : Layout → Model → Option Move
next_prune c m = option_map (λ g. prune g (least (c.of_generator g))) (lowest c.generators (wholly_open c m))

-- a flip of the lowest generator that has a set lowering the weight
abbrev pub next_flip : Layout → Model → Option Move
next_flip c m = option_map flip (lowest c.generators (lowerable c m))

-- the move that a run makes next: a peel, else a prune, else a flip
abbrev pub next : Layout → Model → Option Move
next c m =
    let f = next_flip c m in
    let p = or_else (next_prune c m) f in
    or_else (next_peel c m) p
