-- The report of a decoded job. Assumes nothing.
use Rattle.std.specs.Prelude.{◌≡◌, ℕ, ◌^◌, ◌<◌, ◌&&◌, List, [], ◌∷◌, ◌++◌, Some, None, Err, codes, decimal, Option, Result}
use Rattle.refusals.specs.declared.Refusal.{Refusal}
use Rattle.refusals.specs.declared.Refusal.TheVariants.{WrongPatternLength, UnusedBitSet}
use Rattle.refusals.specs.Questions.{Question, first_no, where_accepted}
use Rattle.refusals.specs.Outputs.{answered, written}
use Rattle.verdicts.specs.declared.Verdict.{Verdict}
use Rattle.verdicts.specs.Words.{word}
use Rattle.patterns.specs.Patterns.{fitting, tidy}
use Rattle.patterns.specs.Hex.{hexed}
use Rattle.codes.specs.Layouts.{Layout}
use Rattle.reports.specs.declared.report.Report.{Report}
use Rattle.reports.specs.Texts.{line}

-- what a report tells
pub record Told : Type 0 where
  pub letter : ℕ
  pub qubits : ℕ
  pub checks : ℕ
  pub generators : ℕ
  pub verdict : Verdict
  pub peels : ℕ
  pub prunes : ℕ
  pub flips : ℕ
  pub correction : List ℕ
  pub opened : List ℕ

-- what is told of a code of that letter
abbrev pub told : ℕ → Layout → Report → Told
told letter c r = record {
  letter = letter;
  qubits = c.qubits;
  checks = c.checks;
  generators = c.generators;
  verdict = r.verdict;
  peels = r.peels;
  prunes = r.prunes;
  flips = r.flips;
  correction = r.correction.now;
  opened = r.opened.now;
}

-- the five lines
abbrev pub code_line : ℕ → ℕ → ℕ → ℕ → List ℕ
code_line letter qubits checks generators = line (codes "code") ((letter ∷ []) ∷ decimal qubits ∷ decimal checks ∷ decimal generators ∷ [])

abbrev pub verdict_line : Verdict → List ℕ
verdict_line v = line (codes "verdict") (word v ∷ [])

abbrev pub moves_line : ℕ → ℕ → ℕ → List ℕ
moves_line peels prunes flips = line (codes "moves") (decimal peels ∷ decimal prunes ∷ decimal flips ∷ [])

abbrev pub fix_line : List ℕ → List ℕ
fix_line bytes = line (codes "fix") (hexed bytes ∷ [])

abbrev pub open_line : List ℕ → List ℕ
open_line bytes = line (codes "open") (hexed bytes ∷ [])

-- the lines of counts and words, and those of patterns
abbrev pub short_lines : Told → List ℕ
short_lines t = code_line t.letter t.qubits t.checks t.generators ++ (verdict_line t.verdict ++ moves_line t.peels t.prunes t.flips)

abbrev pub pattern_lines : Told → List ℕ
pattern_lines t = fix_line t.correction ++ open_line t.opened

unfoldable pub report_of : Told → List ℕ
report_of t = short_lines t ++ pattern_lines t

-- what is asked before the output's length: the length of both patterns, and the unused bits of both
abbrev pub report_questions : Told → List Question
report_questions t =
    (fitting t.qubits t.correction && fitting t.qubits t.opened, WrongPatternLength)
    ∷ (tidy t.qubits t.correction && tidy t.qubits t.opened, UnusedBitSet)
    ∷ []

-- a refusal, or else an answer
abbrev pub refused_or_answered : Option Refusal → Result ℕ Refusal → Result ℕ Refusal
refused_or_answered None r = r
refused_or_answered (Some e) r = Err e

-- what the writer answers, and what it leaves in the output
abbrev pub report_answer : Told → List ℕ → Result ℕ Refusal
report_answer t out = refused_or_answered (first_no (report_questions t)) (answered (report_of t) out)

abbrev pub report_output : Told → List ℕ → List ℕ
report_output t out = where_accepted (first_no (report_questions t)) (written (report_of t) out) out

-- what can be told: counts of 32 bits
pub record Tellable (t : Told) : Type 0 where
  pub qubits : t.qubits < 2 ^ 32
  pub checks : t.checks < 2 ^ 32
  pub generators : t.generators < 2 ^ 32
  pub peels : t.peels < 2 ^ 32
  pub prunes : t.prunes < 2 ^ 32
  pub flips : t.flips < 2 ^ 32

-- a report can be read back: two reports of the same bytes tell the same
abbrev pub ReportDetermines : Type 0
ReportDetermines = (s t : Told) → Tellable s → Tellable t → report_of s ≡ report_of t → s ≡ t
