-- Decoding a job file, and what is written of it. Assumes nothing.
use Rattle.std.specs.Prelude.{ℕ, List, take, drop, Some, None, Option, Result}
use Rattle.std.specs.Option.{unwrap_or}
use Rattle.refusals.specs.declared.Refusal.{Refusal}
use Rattle.refusals.specs.Outputs.{answered, written}
use Rattle.patterns.specs.Patterns.{width}
use Rattle.graphs.specs.Tanners.{Tanner}
use Rattle.graph_files.specs.Files.{graph_in}
use Rattle.codes.specs.Layouts.{Layout}
use Rattle.codes.specs.Exchanging.{exchanged}
use Rattle.products.specs.Products.{product_of}
use Rattle.job_files.specs.declared.faults.Fault.{Fault}
use Rattle.job_files.specs.declared.parts.Side.{Side}
use Rattle.job_files.specs.declared.parts.Side.TheVariants.{Product, ExchangedProduct}
use Rattle.job_files.specs.Files.{side_in, part_of_graph, syndrome_at, erasure_at, checks_in_job, qubits_in_job, job_fault}
use Rattle.reports.specs.RefusalLines.{refusal_line}
use Rattle.decoding.specs.Decodings.{decoded, blank, decoded_answer, decoded_output}

-- the letter and the code of each side
abbrev pub side_letter : Side → ℕ
side_letter Product = 80
side_letter ExchangedProduct = 69

abbrev pub side_code : Side → Tanner → Layout
side_code Product t = product_of t t
side_code ExchangedProduct t = exchanged (product_of t t)

-- what is answered and what is written of a syndrome and an erasure on one side of the product of a graph with itself
abbrev pub job_answer : Side → Tanner → List ℕ → List ℕ → List ℕ → Result ℕ Refusal
job_answer s t syndrome erasure out = decoded_answer (side_letter s) (side_code s t) (decoded (side_code s t) (blank (side_code s t)) syndrome erasure) out

abbrev pub job_output : Side → Tanner → List ℕ → List ℕ → List ℕ → List ℕ
job_output s t syndrome erasure out = decoded_output (side_letter s) (side_code s t) (decoded (side_code s t) (blank (side_code s t)) syndrome erasure) out

-- the side, the syndrome and the erasure of a file
abbrev pub side_told : List ℕ → Side
side_told file = unwrap_or (side_in file) Product

abbrev pub syndrome_told : List ℕ → List ℕ
syndrome_told file = take (width (checks_in_job file)) (drop (syndrome_at file) file)

abbrev pub erasure_told : List ℕ → List ℕ
erasure_told file = take (width (qubits_in_job file)) (drop (erasure_at file) file)

-- what is answered and what is written of a file: the line of its fault, or else the report of its job
abbrev pub answer_by : Option Fault → List ℕ → List ℕ → Result ℕ Refusal
answer_by (Some e) file out = answered (refusal_line e) out
answer_by None file out = job_answer (side_told file) (graph_in (part_of_graph file)) (syndrome_told file) (erasure_told file) out

abbrev pub output_by : Option Fault → List ℕ → List ℕ → List ℕ
output_by (Some e) file out = written (refusal_line e) out
output_by None file out = job_output (side_told file) (graph_in (part_of_graph file)) (syndrome_told file) (erasure_told file) out

abbrev pub file_answer : List ℕ → List ℕ → Result ℕ Refusal
file_answer file out = answer_by (job_fault file) file out

abbrev pub file_output : List ℕ → List ℕ → List ℕ
file_output file out = output_by (job_fault file) file out
