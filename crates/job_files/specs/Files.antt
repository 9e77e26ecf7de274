-- The job file: a head of eight bytes, a graph file, a syndrome and an erasure. Assumes nothing.
use Rattle.std.specs.Prelude.{◌≡◌, ℕ, ◌+◌, ◌*◌, Bool, ◌&&◌, List, [], ◌∷◌, length, take, drop, is_some, Some, None, Option, ◌==◌, nat_le, slice_index}
use Rattle.refusals.specs.declared.Refusal.TheVariants.{HeadCutShort, WrongMark, WrongVersion, WrongLength, UnusedBitSet, UnknownSide}
use Rattle.refusals.specs.Questions.{Question, first_no}
use Rattle.patterns.specs.Patterns.{width, tidy}
use Rattle.graph_files.specs.Files.{word, variables_in, checks_in, graph_refusal, graph_in}
use Rattle.graph_files.specs.Held.{graph_of}
use Rattle.job_files.specs.declared.faults.Fault.{Fault}
use Rattle.job_files.specs.declared.parts.Side.{Side}
use Rattle.job_files.specs.declared.parts.JobFile.{JobFile}
use Rattle.job_files.specs.Faults.{of_job, of_graph, or_else}
use Rattle.job_files.specs.Parts.{Cut}
use Rattle.job_files.specs.Sides.{side_of}

-- ---- the head

-- whether the file begins with the mark ERA
abbrev pub marked : List ℕ → Bool
marked file = slice_index file 0 == 69 && (slice_index file 1 == 82 && slice_index file 2 == 65)

abbrev pub side_in : List ℕ → Option Side
side_in file = side_of (slice_index file 5)

-- the bytes of the head
abbrev pub head : ℕ
head = 8

-- the length of the graph part, and where the syndrome begins
abbrev pub graph_size : List ℕ → ℕ
graph_size file = word file 6

abbrev pub syndrome_at : List ℕ → ℕ
syndrome_at file = head + graph_size file

-- what is asked of the head, and whether the graph part is whole
abbrev pub head_questions : List ℕ → List Question
head_questions file =
    (nat_le head (length file), HeadCutShort)
    ∷ (marked file, WrongMark)
    ∷ ((word file 3 == 1), WrongVersion)
    ∷ (is_some (side_in file), UnknownSide)
    ∷ (nat_le (syndrome_at file) (length file), WrongLength)
    ∷ []

-- ---- the graph part

abbrev pub part_of_graph : List ℕ → List ℕ
part_of_graph file = take (graph_size file) (drop head file)

-- ---- the syndrome and the erasure

-- of the product of a graph of n variables and m checks: its checks, which are as many as its generators, and its qubits
abbrev pub checks_of : ℕ → ℕ → ℕ
checks_of n m = n * m

abbrev pub qubits_of : ℕ → ℕ → ℕ
qubits_of n m = n * n + m * m

-- the syndrome of c checks that begins at a place, and the erasure of q qubits after it
abbrev pub syndrome_from : ℕ → ℕ → List ℕ → List ℕ
syndrome_from at c file = take (width c) (drop at file)

abbrev pub erasure_from : ℕ → ℕ → ℕ → List ℕ → List ℕ
erasure_from at c q file = take (width q) (drop (at + width c) file)

-- what is asked of a file whose syndrome begins at a place: the length of the whole, and the unused bits of syndrome and erasure
abbrev pub pattern_questions : ℕ → ℕ → ℕ → List ℕ → List Question
pattern_questions at c q file =
    ((length file == at + width c + width q), WrongLength)
    ∷ (tidy c (syndrome_from at c file) && tidy q (erasure_from at c q file), UnusedBitSet)
    ∷ []

-- ---- the whole file

-- the checks and the qubits of the product of the graph part with itself
abbrev pub checks_in_job : List ℕ → ℕ
checks_in_job file = checks_of (variables_in (part_of_graph file)) (checks_in (part_of_graph file))

abbrev pub qubits_in_job : List ℕ → ℕ
qubits_in_job file = qubits_of (variables_in (part_of_graph file)) (checks_in (part_of_graph file))

-- where the erasure begins
abbrev pub erasure_at : List ℕ → ℕ
erasure_at file = syndrome_at file + width (checks_in_job file)

-- what is asked of the file's syndrome and erasure
abbrev pub job_pattern_questions : List ℕ → List Question
job_pattern_questions file = pattern_questions (syndrome_at file) (checks_in_job file) (qubits_in_job file) file

-- which question the file answers with no, and which layer asked it
unfoldable pub job_fault : List ℕ → Option Fault
job_fault file =
    or_else (of_job (first_no (head_questions file)))
    (or_else (of_graph (graph_refusal (part_of_graph file))) (of_job (first_no (job_pattern_questions file))))

-- what is read of a file: no question is answered with no, and each part is the file's
pub record Told (file : List ℕ) (j : JobFile) : Type 0 where
  pub accepted : job_fault file ≡ None
  pub side : Some j.side ≡ side_in file
  pub graph : graph_of j.graph ≡ graph_in (part_of_graph file)
  pub graph_bytes : Cut file head (graph_size file) j.graph_part
  pub syndrome : Cut file (syndrome_at file) (width (checks_in_job file)) j.syndrome
  pub erasure : Cut file (erasure_at file) (width (qubits_in_job file)) j.erasure
