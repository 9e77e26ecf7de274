-- A job's bytes as a model, and answers by numbers. Assumes nothing.
use Rattle.std.specs.Prelude.{ℕ, Ok, Err, Result}
use Rattle.refusals.specs.declared.Refusal.{Refusal}
use Rattle.codes.specs.declared.code.Qubit.{Qubit}
use Rattle.moves.specs.declared.job.Job.{Job}
use Rattle.moves.specs.Jobs.{Model}

abbrev pub model : Job → Model
model j = record { remaining = j.remaining.now; opened = j.opened.now; correction = j.correction.now; moves = j.moves }

-- a qubit by its number
abbrev pub by_number : Result (Qubit × ℕ) Refusal → Result (ℕ × ℕ) Refusal
by_number (Ok p) = Ok (p.0.0, p.1)
by_number (Err e) = Err e
