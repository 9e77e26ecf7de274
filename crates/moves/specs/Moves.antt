-- The moves of a job: peel, prune and flip. Assumes nothing.
use Rattle.std.specs.Prelude.{ℕ, cond, ◌&&◌, List, [], ◌∷◌, ◌++◌, length, Some, None, Ok, Err, Option, nat_lt}
use Rattle.refusals.specs.declared.Refusal.TheVariants.{NumberOutOfRange, NotDangling, NotInGenerator, NotAllOpen, NoSetLowers}
use Rattle.refusals.specs.Questions.{Question, first_no}
use Rattle.patterns.specs.Sets.{has}
use Rattle.patterns.specs.Patterns.{member}
use Rattle.codes.specs.Layouts.{Layout}
pub use Rattle.scans.specs.Scans.{single, all_in, meeting}
use Rattle.flips.specs.Flips.{with_fall, flip_set}
use Rattle.moves.specs.Jobs.{Model, Outcome, refused_or, pattern_questions, counted, changed, closed}

-- ---- peel

-- the check is one of the code
abbrev pub peel_questions : Layout → Model → ℕ → List Question
peel_questions c m u = pattern_questions c m ++ (nat_lt u c.checks, NumberOutOfRange) ∷ []

-- Check u is peeled at its open qubit v: where u remains, v changes in the correction and each check of v in the remaining syndrome; then v is closed.
abbrev pub peel_at : Layout → Model → ℕ → ℕ → Model
peel_at c m u v = counted (closed c (cond (member m.remaining u) (changed c m (v ∷ [])) m) v)

-- where there is just one open qubit: the qubit, with 1 or 0 for whether it changed
abbrev pub peel_by : Layout → Model → ℕ → Option ℕ → Outcome (ℕ × ℕ)
peel_by c m u None = (Err NotDangling, m)
peel_by c m u (Some v) = (Ok (v, cond (member m.remaining u) 1 0), peel_at c m u v)

abbrev pub peel_of : Layout → Model → ℕ → Outcome (ℕ × ℕ)
peel_of c m u = refused_or (first_no (peel_questions c m u)) m (peel_by c m u (single (meeting c (member m.opened) u)))

-- ---- prune

abbrev pub prune_questions : Layout → Model → ℕ → ℕ → List Question
prune_questions c m g v =
    pattern_questions c m
    ++ (nat_lt g c.generators && nat_lt v c.qubits, NumberOutOfRange)
    ∷ (has (c.of_generator g) v, NotInGenerator)
    ∷ (all_in (member m.opened) (c.of_generator g), NotAllOpen)
    ∷ []

-- one qubit of a generator that is all open is closed, and nothing else changes but the count
abbrev pub prune_of : Layout → Model → ℕ → ℕ → Outcome (Unit {0})
prune_of c m g v = refused_or (first_no (prune_questions c m g v)) m (Ok tt, counted (closed c m v))

-- ---- flip

abbrev pub flip_questions : Layout → Model → ℕ → List Question
flip_questions c m g = pattern_questions c m ++ (nat_lt g c.generators, NumberOutOfRange) ∷ []

-- where a set lowers the weight: by how much, and the set's size; the correction changes on the set, and the remaining syndrome by its syndrome
abbrev pub flip_by : Layout → Model → Option (List ℕ) → Outcome (ℕ × ℕ)
flip_by c m None = (Err NoSetLowers, m)
flip_by c m (Some f) = (Ok ((with_fall c m.remaining f).0, length f), counted (changed c m f))

abbrev pub flip_of : Layout → Model → ℕ → Outcome (ℕ × ℕ)
flip_of c m g = refused_or (first_no (flip_questions c m g)) m (flip_by c m (flip_set c m.remaining m.opened g))
