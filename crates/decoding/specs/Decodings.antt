-- Decoding a syndrome and an erasure, and what is written of it. Assumes nothing.
use Rattle.std.specs.Prelude.{◌≡◌, ℕ, ◌⊎◌, List, replicate, Ok, Err, Result}
use Rattle.refusals.specs.declared.Refusal.{Refusal}
use Rattle.refusals.specs.declared.Refusal.TheVariants.{OutOfMemory}
use Rattle.refusals.specs.Outputs.{answered, written}
use Rattle.patterns.specs.Patterns.{width, Well}
use Rattle.codes.specs.Layouts.{Layout}
use Rattle.moves.specs.Jobs.{Model, Outcome, open_of, opening}
use Rattle.jobs.specs.declared.answers.Run.{Run}
use Rattle.jobs.specs.Moving.{Move, moved_all}
use Rattle.jobs.specs.Verdicts.{verdict}
use Rattle.jobs.specs.Runs.{run_moves, peels, prunes, flips, run_of}
use Rattle.reports.specs.Reports.{Told, report_of, report_answer, report_output}

-- what is told of a job that a run has left
abbrev pub told_of : ℕ → Layout → Run → Model → Told
told_of letter c r m = record {
  letter = letter;
  qubits = c.qubits;
  checks = c.checks;
  generators = c.generators;
  verdict = r.verdict;
  peels = r.peels;
  prunes = r.prunes;
  flips = r.flips;
  correction = m.correction;
  opened = m.opened;
}

-- what a call on a job answers, where it goes on from one that was accepted
abbrev pub then_run : Layout → Outcome (Unit {0}) → Outcome Run
then_run c (Ok x, m) = run_of c m
then_run c (Err e, m) = (Err e, m)

-- a job that is opened and run
abbrev pub decoded : Layout → Model → List ℕ → List ℕ → Outcome Run
decoded c m syndrome erasure = then_run c (open_of c m syndrome erasure)

-- a job with nothing in it
abbrev pub blank : Layout → Model
blank c = record { remaining = replicate (width c.checks) 0; opened = replicate (width c.qubits) 0; correction = replicate (width c.qubits) 0; moves = 0 }

-- what is answered of it, and what stands in the output: its report, or what refused it
abbrev pub decoded_answer : ℕ → Layout → Outcome Run → List ℕ → Result ℕ Refusal
decoded_answer letter c (Ok r, m) out = report_answer (told_of letter c r m) out
decoded_answer letter c (Err e, m) out = Err e

abbrev pub decoded_output : ℕ → Layout → Outcome Run → List ℕ → List ℕ
decoded_output letter c (Ok r, m) out = report_output (told_of letter c r m) out
decoded_output letter c (Err e, m) out = out

-- the moves of a run from the opening, what they leave, and what the run tells
abbrev pub moves_from : Layout → List ℕ → List ℕ → List Move
moves_from c syndrome erasure = run_moves c (opening c syndrome erasure)

abbrev pub left_by : Layout → List ℕ → List ℕ → Model
left_by c syndrome erasure = moved_all c (opening c syndrome erasure) (moves_from c syndrome erasure)

abbrev pub run_told : Layout → List ℕ → List ℕ → Run
run_told c syndrome erasure =
    let moves = moves_from c syndrome erasure in
    record { peels = peels moves; prunes = prunes moves; flips = flips moves; verdict = verdict c (left_by c syndrome erasure) }

-- the report of a job that was opened on the syndrome and the erasure and run
abbrev pub decoded_text : ℕ → Layout → List ℕ → List ℕ → List ℕ
decoded_text letter c syndrome erasure = report_of (told_of letter c (run_told c syndrome erasure) (left_by c syndrome erasure))

-- well-formed patterns are never refused: what is answered and written is their text
abbrev pub WellFormedDecode : ℕ → Layout → Type 0
WellFormedDecode letter c = (syndrome erasure out : List ℕ) → Well c.checks syndrome → Well c.qubits erasure
    → (decoded_answer letter c (decoded c (blank c) syndrome erasure) out ≡ answered (decoded_text letter c syndrome erasure) out)
    × (decoded_output letter c (decoded c (blank c) syndrome erasure) out ≡ written (decoded_text letter c syndrome erasure) out)

-- an answer and an output, unless there was no memory: then the output stays
abbrev pub UnlessNoMemory : Result ℕ Refusal → List ℕ → List ℕ → Result ℕ Refusal → List ℕ → Type 0
UnlessNoMemory r old new answer output = ((r ≡ Err OutOfMemory) × (new ≡ old)) ⊎ ((r ≡ answer) × (new ≡ output))
