-- Want of memory, in which nothing is done. Assumes nothing.
use Rattle.std.proofs.Common.{◌≡◌, Err, Option, Result, sym, refl, subst, inr}
use Rattle.codes.specs.Layouts.{Layout}
use Rattle.moves.specs.Jobs.{Model}
use Rattle.foreign.specs.declared.calling.Task.{Task}
use Rattle.foreign.specs.declared.not_done.NotDone.{NotDone}
use Rattle.foreign.specs.declared.not_done.NotDone.TheVariants.{NoMemory}
use Rattle.foreign.specs.declared.numbers.Numbers.{Numbers}
use Rattle.foreign.specs.Tasks.{Done}

-- the job is as it was
pub done_without : (o : Option Layout) (m : Model) (t : Task) (r : Result Numbers NotDone) → r ≡ Err NoMemory → Done o m t (r, m)
done_without o m t r p = subst (λ (q : Result Numbers NotDone). Done o m t (q, m)) (sym p) (inr refl)
