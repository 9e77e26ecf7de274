-- What is decoded on a side goes by the side and the graph alone. Assumes nothing.
use Rattle.std.proofs.Common.{◌≡◌, ℕ, List, Result, sym, subst}
use Rattle.refusals.specs.declared.Refusal.{Refusal}
use Rattle.graph_files.specs.declared.matrix.Matrix.{Matrix}
use Rattle.graph_files.specs.Held.{graph_of}
use Rattle.job_files.specs.declared.parts.Side.{Side}
use Rattle.decoding.specs.Decodings.{UnlessNoMemory}
use Rattle.decoding.specs.Files.{job_answer, job_output}

module _ (r : Result ℕ Refusal) (out new syndrome erasure : List ℕ) where
  abbrev pub On : Side → Matrix → Type 0
  On s g = UnlessNoMemory r out new (job_answer s (graph_of g) syndrome erasure out) (job_output s (graph_of g) syndrome erasure out)

  pub on_same : (s t : Side) (g h : Matrix) → t ≡ s → g ≡ h → On s g → On t h
  on_same s t g h side graph p = subst (λ x. On x h) (sym side) (subst (λ x. On s x) graph p)
