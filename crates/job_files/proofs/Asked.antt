-- Which fault a job file has, by what its parts were asked. Assumes nothing.
use Rattle.std.proofs.Common.{◌≡◌, ℕ, ◌+◌, ◌<◌, ◌≤◌, true, leb, List, length, get_or, drop, Some, None, unwrap_or, sym, ap, ◌∙◌, ap₂, arith}
use Rattle.std.proofs.lemmas.List.{length-take-le, length-drop}
use Rattle.std.proofs.lemmas.Bool.{and_parts, leb-true}
use Rattle.refusals.specs.declared.Refusal.{Refusal}
use Rattle.refusals.specs.declared.Refusal.TheVariants.{OutOfMemory}
use Rattle.refusals.specs.Questions.{first_no}
use Rattle.refusals.proofs.Asking.{yes_from_none}
use Rattle.graphs.specs.Tanners.{counted, most_nodes}
use Rattle.graph_files.specs.Files.{variables_in, checks_in, graph_refusal, head_questions as graph-head-questions}
use Rattle.graph_files.proofs.Heads.{heads_asked}
use Rattle.job_files.specs.declared.faults.Fault.{Fault}
use Rattle.job_files.specs.declared.faults.Fault.TheVariants.{Job, Graph}
use Rattle.job_files.specs.Faults.{of_job, of_graph, or_else}
use Rattle.job_files.specs.Files.{head, head_questions, part_of_graph, graph_size, syndrome_at, checks_of, qubits_of, checks_in_job, qubits_in_job, pattern_questions, job_pattern_questions, job_fault}

-- ---- the first no

-- a fault that is the file's is what the reader answers
pub answers_fault : (f : List ℕ) (d e : Fault) → d ≡ e → job_fault f ≡ Some e → d ≡ unwrap_or (job_fault f) (Graph OutOfMemory)
answers_fault f d e same fault = same ∙ sym (ap (λ x. unwrap_or x (Graph OutOfMemory)) fault)

module _ (f : List ℕ) where
  pub fault_of_head : (e : Refusal) → first_no (head_questions f) ≡ Some e → job_fault f ≡ Some (Job e)
  unfolding job_fault
  fault_of_head e h = ap (λ x. or_else (of_job x) (or_else (of_graph (graph_refusal (part_of_graph f))) (of_job (first_no (job_pattern_questions f))))) h

  module _ (heads : first_no (head_questions f) ≡ None) where
    past_head : job_fault f ≡ or_else (of_graph (graph_refusal (part_of_graph f))) (of_job (first_no (job_pattern_questions f)))
    unfolding job_fault
    past_head = ap (λ x. or_else (of_job x) (or_else (of_graph (graph_refusal (part_of_graph f))) (of_job (first_no (job_pattern_questions f))))) heads

    pub fault_of_graph : (e : Refusal) → graph_refusal (part_of_graph f) ≡ Some e → job_fault f ≡ Some (Graph e)
    fault_of_graph e h = past_head ∙ ap (λ x. or_else (of_graph x) (of_job (first_no (job_pattern_questions f)))) h

    pub fault_of_patterns : graph_refusal (part_of_graph f) ≡ None → job_fault f ≡ of_job (first_no (job_pattern_questions f))
    fault_of_patterns h = past_head ∙ ap (λ x. or_else (of_graph x) (of_job (first_no (job_pattern_questions f)))) h

-- ---- the counts of a graph that was asked

small_count : (n : ℕ) → counted n ≡ true → n ≤ most_nodes
small_count n h = leb-true n most_nodes (and_parts (leb 1 n) (leb n most_nodes) h).1

pub small_counts : (g : List ℕ) → graph_refusal g ≡ None → (variables_in g ≤ most_nodes) × (checks_in g ≤ most_nodes)
small_counts g h =
    let both = and_parts (counted (variables_in g)) (counted (checks_in g)) (yes_from_none (graph-head-questions g) (heads_asked g h)).1.1.1.0 in
    (small_count (variables_in g) both.0, small_count (checks_in g) both.1)

-- ---- what is read is what the file tells

pub size_is : (f bytes : List ℕ) → first_no (head_questions f) ≡ None → bytes ≡ part_of_graph f → head + length bytes ≡ syndrome_at f
size_is f bytes heads is =
    let whole = leb-true (syndrome_at f) (length f) (yes_from_none (head_questions f) heads).1.1.1.1.0 in
    ap (λ x. head + length x) is ∙ ap (λ k. head + k) (length-take-le (graph_size f) (drop head f) (omega (arith, length-drop head f)))

-- a file whose graph part was asked: where its syndrome begins, its counts c and q, and what is left to ask
pub record Asked (f bytes : List ℕ) (c q : ℕ) : Type 0 where
  pub size : head + length bytes ≡ syndrome_at f
  pub checks : c ≡ checks_in_job f
  pub qubits : q ≡ qubits_in_job f
  pub fault : job_fault f ≡ of_job (first_no (pattern_questions (head + length bytes) c q f))

pub asked : (f bytes : List ℕ) (n m c q : ℕ)
    → first_no (head_questions f) ≡ None
    → bytes ≡ part_of_graph f
    → graph_refusal bytes ≡ None
    → n ≡ variables_in bytes
    → m ≡ checks_in bytes
    → c ≡ checks_of n m
    → q ≡ qubits_of n m
    → Asked f bytes c q
asked f bytes n m c q heads is none variables checks rows qubits =
    let size = size_is f bytes heads is in
    let c-is = rows ∙ ap₂ checks_of (variables ∙ ap variables_in is) (checks ∙ ap checks_in is) in
    let q-is = qubits ∙ ap₂ qubits_of (variables ∙ ap variables_in is) (checks ∙ ap checks_in is) in
    record {
      size = size;
      checks = c-is;
      qubits = q-is;
      fault = fault_of_patterns f heads (ap graph_refusal (sym is) ∙ none)
          ∙ sym (ap (λ at. of_job (first_no (pattern_questions at c q f))) size ∙ ap₂ (λ x y. of_job (first_no (pattern_questions (syndrome_at f) x y f))) c-is q-is);
    }

-- the head tells a place that 32 bits hold
pub place_small : (f : List ℕ) → ((i : ℕ) → get_or f i 0 < 256) → syndrome_at f < 4294967296
place_small f bytes = omega (arith, bytes 6, bytes 7)
