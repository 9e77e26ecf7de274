-- What is done with a job. Assumes nothing.
use Rattle.std.specs.Prelude.{Option, Result}
use Rattle.codes.specs.Layouts.{Layout}
use Rattle.moves.specs.Jobs.{Model}
use Rattle.foreign.specs.declared.calling.Task.{Task}
use Rattle.foreign.specs.declared.calling.Task.TheVariants.{Call, Open}
use Rattle.foreign.specs.declared.not_done.NotDone.{NotDone}
use Rattle.foreign.specs.declared.numbers.Numbers.{Numbers}
use Rattle.foreign.specs.Numbering.{numbered, reopened, told_numbers, Answered}
use Rattle.foreign.specs.Calling.{meant}
use Rattle.jobs.specs.Calls.{call}

-- the call that is asked, or the opening
abbrev pub done : Layout → Model → Task → Numbers × Model
done c m (Call k) = numbered (call c m (meant k))
done c m (Open syndrome erasure) = reopened c m syndrome.now erasure.now

-- a task on a code that may not be told
abbrev pub Done : Option Layout → Model → Task → Result Numbers NotDone × Model → Type 0
Done o m t x = Answered o m (λ c. done c m t) (told_numbers x.0, x.1)
