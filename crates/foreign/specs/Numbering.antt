-- Calls and their answers as numbers. Assumes nothing.
use Rattle.std.specs.Prelude.{◌≡◌, ℕ, cond, ◌⊎◌, List, Some, None, Ok, Err, Option, Result, ◌==◌}
use Rattle.refusals.specs.declared.Refusal.{Refusal}
use Rattle.refusals.specs.Questions.{number}
use Rattle.verdicts.specs.declared.Verdict.{Verdict}
use Rattle.verdicts.specs.declared.Verdict.TheVariants.{Contradicted, Settled, Moving, Matched, Stalled}
use Rattle.codes.specs.Layouts.{Layout}
use Rattle.moves.specs.Jobs.{Model, open_of}
use Rattle.jobs.specs.Moving.{peel, prune, flip}
use Rattle.jobs.specs.Calls.{Call, move, run, ask, Answer, refused, peeled, pruned, flipped, ran, told}
use Rattle.foreign.specs.declared.not_done.NotDone.{NotDone}
use Rattle.foreign.specs.declared.not_done.NotDone.TheVariants.{NoSuchCode, NoMemory}
use Rattle.foreign.specs.declared.numbers.Asked.{Asked}
use Rattle.foreign.specs.declared.numbers.Numbers.{Numbers}

-- the call that is asked; a number that names no other call asks for the verdict
abbrev pub call_of : Asked → Call
call_of a =
    cond (a.call == 0) (move (peel a.first))
    (cond (a.call == 1) (move (prune a.first a.second))
    (cond (a.call == 2) (move (flip a.first))
    (cond (a.call == 3) run ask)))

-- the number of a refusal: that of its question, and 254 for want of memory, which is no question
abbrev pub refusal_number : Refusal → ℕ
refusal_number e = cond (number e == 0) 254 (number e)

abbrev pub verdict_number : Verdict → ℕ
verdict_number Contradicted = 1
verdict_number Settled = 2
verdict_number Moving = 3
verdict_number Matched = 4
verdict_number Stalled = 5

-- nothing is told but which question was answered no
abbrev pub only_refused : ℕ → Numbers
only_refused n = record { refused = n; first = 0; second = 0; third = 0; verdict = 0 }

abbrev pub numbers_of : Answer → Numbers
numbers_of (refused e) = only_refused (refusal_number e)
numbers_of (peeled v b) = record { refused = 0; first = v; second = b; third = 0; verdict = 0 }
numbers_of pruned = only_refused 0
numbers_of (flipped f n) = record { refused = 0; first = f; second = n; third = 0; verdict = 0 }
numbers_of (ran r) = record { refused = 0; first = r.peels; second = r.prunes; third = r.flips; verdict = verdict_number r.verdict }
numbers_of (told v) = record { refused = 0; first = 0; second = 0; third = 0; verdict = verdict_number v }

-- the numbers of what an accepted call tells, or of its refusal
abbrev pub answer_numbers : {X : Type 0} → (X → Answer) → Result X Refusal → Numbers
answer_numbers f (Ok x) = numbers_of (f x)
answer_numbers f (Err e) = numbers_of (refused e)

-- an answer by its numbers, and what the call leaves
abbrev pub numbered : Answer × Model → Numbers × Model
numbered o = (numbers_of o.0, o.1)

-- the numbers of an opening, which tells no more than a prune does, and what it leaves
abbrev pub reopened : Layout → Model → List ℕ → List ℕ → Numbers × Model
reopened c m syndrome erasure = (answer_numbers (λ _. pruned) (open_of c m syndrome erasure).0, (open_of c m syndrome erasure).1)

-- where nothing was done: 255 where no code is told, or 254 for want of memory
abbrev pub not_done_numbers : NotDone → Numbers
not_done_numbers NoSuchCode = only_refused 255
not_done_numbers NoMemory = only_refused 254

-- the numbers of what was done, or of why nothing was
abbrev pub told_numbers : Result Numbers NotDone → Numbers
told_numbers (Ok n) = n
told_numbers (Err e) = not_done_numbers e

-- a job of three patterns and a count of moves
abbrev pub model_of : List ℕ → List ℕ → List ℕ → ℕ → Model
model_of remaining opened correction moves = record { remaining = remaining; opened = opened; correction = correction; moves = moves }

-- what is answered where a code may not be told: 255 says that it is not, and the job is as it was
abbrev pub on_told : Option Layout → Model → (Layout → Numbers × Model) → Numbers × Model
on_told None m f = (only_refused 255, m)
on_told (Some c) m f = f c

-- that is answered; or there was no memory, which 254 says, and the job is as it was
abbrev pub Answered : Option Layout → Model → (Layout → Numbers × Model) → Numbers × Model → Type 0
Answered o m f x = (x ≡ on_told o m f) ⊎ (x ≡ (only_refused 254, m))
