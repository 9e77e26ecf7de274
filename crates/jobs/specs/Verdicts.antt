-- Where a job stands. Assumes nothing.
use Rattle.std.specs.Prelude.{Bool, cond, not, ◌&&◌, ◌||◌, List, [], ◌∷◌, is_some, Ok}
use Rattle.refusals.specs.Questions.{first_no}
use Rattle.verdicts.specs.declared.Verdict.{Verdict}
use Rattle.verdicts.specs.declared.Verdict.TheVariants.{Contradicted, Settled, Moving, Matched, Stalled}
use Rattle.patterns.specs.Sets.{Set}
use Rattle.patterns.specs.Patterns.{member}
use Rattle.codes.specs.Layouts.{Layout}
use Rattle.scans.specs.Scans.{is_empty, meeting}
use Rattle.moves.specs.Jobs.{Model, Outcome, refused_or, pattern_questions}
use Rattle.jobs.specs.Choosing.{some_below}
use Rattle.jobs.specs.Moving.{next_peel, next_prune, next_flip}

-- check u is in the remaining syndrome, and none of its qubits is open
abbrev pub unmet : Layout → Model → Set
unmet c m u = member m.remaining u && is_empty (meeting c (member m.opened) u)

-- the verdict of the first that fits
abbrev pub first_that_fits : List (Bool × Verdict) → Verdict → Verdict
first_that_fits [] v = v
first_that_fits (q ∷ qs) v = cond q.0 q.1 (first_that_fits qs v)

abbrev pub verdict : Layout → Model → Verdict
verdict c m =
    first_that_fits
    ((some_below c.checks (unmet c m), Contradicted)
    ∷ (not (some_below c.qubits (member m.opened)), Settled)
    ∷ (is_some (next_peel c m) || is_some (next_prune c m), Moving)
    ∷ (not (some_below c.checks (member m.remaining)), Matched)
    ∷ (is_some (next_flip c m), Moving)
    ∷ [])
    Stalled

-- a verdict question changes nothing
abbrev pub verdict_of : Layout → Model → Outcome Verdict
verdict_of c m = refused_or (first_no (pattern_questions c m)) m (Ok (verdict c m), m)
