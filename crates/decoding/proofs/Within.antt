-- The count that is answered is within the output. Assumes nothing.
use Rattle.std.proofs.Common.{ℕ, ◌≤◌, List, length, IfOk, Some, None, Ok, Err, Option, Result, sym, subst, ⊎_elim}
use Rattle.std.proofs.lemmas.Bool.{cond_both, leb-true}
use Rattle.refusals.specs.declared.Refusal.{Refusal}
use Rattle.refusals.specs.declared.Refusal.TheVariants.{OutputTooShort}
use Rattle.refusals.specs.Outputs.{room, answered}
use Rattle.codes.specs.Layouts.{Layout}
use Rattle.moves.specs.Jobs.{Outcome}
use Rattle.jobs.specs.declared.answers.Run.{Run}
use Rattle.job_files.specs.declared.faults.Fault.{Fault}
use Rattle.job_files.specs.Files.{job_fault, part_of_graph}
use Rattle.graph_files.specs.Files.{graph_in}
use Rattle.reports.specs.Reports.{refused_or_answered}
use Rattle.reports.specs.RefusalLines.{refusal_line}
use Rattle.decoding.specs.Decodings.{decoded, blank, decoded_answer, UnlessNoMemory}
use Rattle.decoding.specs.Files.{side_letter, side_code, side_told, syndrome_told, erasure_told, answer_by, file_answer, file_output}

-- an accepted answer is at most n
abbrev Within : ℕ → Result ℕ Refusal → Type 0
Within n r = IfOk r (λ k. k ≤ n)

answered_within : (text out : List ℕ) → Within (length out) (answered text out)
answered_within text out = cond_both (room text out) (Ok (length text)) (Err OutputTooShort) (Within (length out)) (λ h. leb-true (length text) (length out) h) (λ _. tt)

asked_within : (n : ℕ) (e : Option Refusal) (r : Result ℕ Refusal) → Within n r → Within n (refused_or_answered e r)
asked_within n None r h = h
asked_within n (Some e) r h = tt

decoded_within : (letter : ℕ) (c : Layout) (o : Outcome Run) (out : List ℕ) → Within (length out) (decoded_answer letter c o out)
decoded_within letter c (Ok r, m) out = asked_within (length out) _ _ (answered_within _ out)
decoded_within letter c (Err e, m) out = tt

by_within : (o : Option Fault) (file out : List ℕ) → Within (length out) (answer_by o file out)
by_within (Some e) file out = answered_within (refusal_line e) out
by_within None file out =
    let c = side_code (side_told file) (graph_in (part_of_graph file)) in
    decoded_within (side_letter (side_told file)) c (decoded c (blank c) (syndrome_told file) (erasure_told file)) out

pub file_within : (file out new : List ℕ) (r : Result ℕ Refusal) → UnlessNoMemory r out new (file_answer file out) (file_output file out) → Within (length out) r
file_within file out new r h =
    ⊎_elim (λ e. subst (Within (length out)) (sym e.0) tt) (λ e. subst (Within (length out)) (sym e.0) (by_within (job_fault file) file out)) h
