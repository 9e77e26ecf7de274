-- The layers of a job file: their words, and the refusal that each passes on. Assumes nothing.
use Rattle.std.specs.Prelude.{ℕ, List, Some, None, codes, Option}
use Rattle.std.specs.Option.{option_map}
use Rattle.refusals.specs.declared.Refusal.{Refusal}
use Rattle.job_files.specs.declared.faults.Fault.{Fault}
use Rattle.job_files.specs.declared.faults.Fault.TheVariants.{Job, Graph}

-- the word of each layer, as bytes
abbrev pub layer_word : Fault → List ℕ
layer_word (Job e) = codes "job"
layer_word (Graph e) = codes "graph"

-- the refusal, whose number is that of the question
abbrev pub refusal_of : Fault → Refusal
refusal_of (Job e) = e
refusal_of (Graph e) = e

-- the first no, of the layer that asked
abbrev pub of_job : Option Refusal → Option Fault
of_job e = option_map Job e

abbrev pub of_graph : Option Refusal → Option Fault
of_graph e = option_map Graph e

-- the first, or else the second
abbrev pub or_else : Option Fault → Option Fault → Option Fault
or_else (Some e) o = Some e
or_else None o = o
