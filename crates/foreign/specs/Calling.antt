-- Calls and their answers as jobs know them. Assumes nothing.
use Rattle.std.specs.Prelude.{Ok, Err, Result}
use Rattle.refusals.specs.declared.Refusal.{Refusal}
use Rattle.jobs.specs.Moving.{peel, prune, flip}
use Rattle.jobs.specs.Calls.{Call, move, run, ask, Answer, refused, peeled, pruned, flipped, ran, told}
use Rattle.foreign.specs.declared.calling.Call.{Call as Made}
use Rattle.foreign.specs.declared.calling.Call.TheVariants.{Peel, Prune, Flip, Run, Ask}
use Rattle.foreign.specs.declared.calling.Answer.{Answer as Told}
use Rattle.foreign.specs.declared.calling.Answer.TheVariants.{Peeled, Accepted, Flipped, Ran, Stands}

-- the call that is made
abbrev pub meant : Made → Call
meant (Peel u) = move (peel u.0)
meant (Prune g v) = move (prune g.0 v.0)
meant (Flip g) = move (flip g.0)
meant Run = run
meant Ask = ask

-- what an accepted call tells; of an opening no more than of a prune
abbrev pub meant_answer : Told → Answer
meant_answer (Peeled p) = peeled p.0.0 p.1
meant_answer Accepted = pruned
meant_answer (Flipped p) = flipped p.0 p.1
meant_answer (Ran r) = ran r
meant_answer (Stands v) = told v

-- what a call answers
abbrev pub answered : Result Told Refusal → Answer
answered (Ok a) = meant_answer a
answered (Err e) = refused e
