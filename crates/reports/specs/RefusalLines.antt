-- The line that says why a job file was refused. Assumes nothing.
use Rattle.std.specs.Prelude.{ℕ, List, [], ◌∷◌, codes, decimal}
use Rattle.refusals.specs.Questions.{number}
use Rattle.job_files.specs.declared.faults.Fault.{Fault}
use Rattle.job_files.specs.Faults.{layer_word, refusal_of}
use Rattle.reports.specs.Texts.{line}

-- the layer that asked, and the number of the question
unfoldable pub refusal_line : Fault → List ℕ
refusal_line f = line (codes "refused") (layer_word f ∷ decimal (number (refusal_of f)) ∷ [])
