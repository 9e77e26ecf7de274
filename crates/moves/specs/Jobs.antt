-- A job as bytes, and what changes in it. Assumes nothing.
use Rattle.std.specs.Prelude.{ℕ, ◌+◌, min, Bool, false, ◌&&◌, List, [], ◌∷◌, Some, None, Ok, Err, Option, Result, ◌==◌}
use Rattle.refusals.specs.declared.Refusal.{Refusal}
use Rattle.refusals.specs.declared.Refusal.TheVariants.{WrongPatternLength, UnusedBitSet}
use Rattle.refusals.specs.Questions.{Question, first_no}
use Rattle.patterns.specs.Sets.{has, parity}
use Rattle.patterns.specs.Patterns.{member, pattern, added, fitting, tidy}
use Rattle.codes.specs.Layouts.{Layout}

-- the syndrome that is left to explain, the qubits that are open, the correction, and how many moves were accepted
pub record Model : Type 0 where
  pub remaining : List ℕ
  pub opened : List ℕ
  pub correction : List ℕ
  pub moves : ℕ

-- where the count of moves stays
abbrev pub most_moves : ℕ
most_moves = 4294967295

-- one more accepted move
abbrev pub counted : Model → Model
counted m = record { remaining = m.remaining; opened = m.opened; correction = m.correction; moves = min (m.moves + 1) most_moves }

-- the correction changes on the qubits of the list, and the remaining syndrome by their syndrome
abbrev pub changed : Layout → Model → List ℕ → Model
changed c m f = record {
  remaining = added c.checks m.remaining (λ u. parity (has f) (c.of_check u));
  opened = m.opened;
  correction = added c.qubits m.correction (has f);
  moves = m.moves;
}

-- qubit v is closed
abbrev pub closed : Layout → Model → ℕ → Model
closed c m v = record {
  remaining = m.remaining;
  opened = added c.qubits m.opened (λ w. (v == w) && member m.opened w);
  correction = m.correction;
  moves = m.moves;
}

-- whether a job's patterns have the lengths of so many checks and qubits
abbrev pub lengths : ℕ → ℕ → Model → Bool
lengths checks qubits m = fitting checks m.remaining && (fitting qubits m.opened && fitting qubits m.correction)

-- what every call asks of a job's patterns: the lengths of all, and then the unused bits of all
abbrev pub pattern_questions : Layout → Model → List Question
pattern_questions c m =
    (lengths c.checks c.qubits m, WrongPatternLength)
    ∷ (tidy c.checks m.remaining && (tidy c.qubits m.opened && tidy c.qubits m.correction), UnusedBitSet)
    ∷ []

-- what a call answers, and what it leaves
abbrev pub Outcome : Type 0 → Type 0
Outcome X = Result X Refusal × Model

-- a refusal leaves the job as it was
abbrev pub refused_or : {X : Type 0} → Option Refusal → Model → Outcome X → Outcome X
refused_or None m r = r
refused_or (Some e) m r = (Err e, m)

-- a job that is opened new
abbrev pub opening : Layout → List ℕ → List ℕ → Model
opening c syndrome erasure = record { remaining = syndrome; opened = erasure; correction = pattern c.qubits (λ _. false); moves = 0 }

-- what is asked before a job is opened: of the patterns that are only filled, their lengths alone
abbrev pub opening_questions : Layout → Model → List ℕ → List ℕ → List Question
opening_questions c m syndrome erasure =
    ((fitting c.checks syndrome && fitting c.qubits erasure) && lengths c.checks c.qubits m, WrongPatternLength)
    ∷ (tidy c.checks syndrome && tidy c.qubits erasure, UnusedBitSet)
    ∷ []

-- opening a job
abbrev pub open_of : Layout → Model → List ℕ → List ℕ → Outcome (Unit {0})
open_of c m syndrome erasure = refused_or (first_no (opening_questions c m syndrome erasure)) m (Ok tt, opening c syndrome erasure)
