-- A file whose head was read: what is left to ask, and what it tells. Assumes nothing.
use Rattle.std.proofs.Common.{◌≡◌, ℕ, true, List, None, sym, ap, ◌∙◌, ap₂}
use Rattle.std.proofs.lemmas.Bool.{and_parts}
use Rattle.refusals.specs.Questions.{first_no}
use Rattle.refusals.proofs.Asking.{yes_from_none, first_no_rest, first_no_none}
use Rattle.graphs.specs.Tanners.{counted}
use Rattle.graph_files.specs.Files.{variables_in, checks_in, rows_in, head_questions, row_questions, graph_refusal, rows_graph, graph_in}

-- a file that answers nothing with no: its head was asked
pub heads_asked : (f : List ℕ) → graph_refusal f ≡ None → first_no (head_questions f) ≡ None
unfolding graph_refusal
heads_asked f h = first_no_none (head_questions f) (row_questions (checks_in f) (variables_in f) (rows_in f)) h

module _ (f rows : List ℕ) (m n : ℕ) (heads : first_no (head_questions f) ≡ None) (variables : n ≡ variables_in f) (checks : m ≡ checks_in f) (rest : rows ≡ rows_in f) where
  pub rows_refusal : graph_refusal f ≡ first_no (row_questions m n rows)
  unfolding graph_refusal
  rows_refusal =
      first_no_rest (head_questions f) (row_questions (checks_in f) (variables_in f) (rows_in f)) heads
      ∙ sym (ap₂ (λ a b. first_no (row_questions a b rows)) checks variables ∙ ap (λ r. first_no (row_questions (checks_in f) (variables_in f) r)) rest)

  pub rows_asked : graph_refusal f ≡ None → first_no (row_questions m n rows) ≡ None
  rows_asked h = sym rows_refusal ∙ h

  pub rows_tell : rows_graph m n rows ≡ graph_in f
  rows_tell = ap₂ (λ a b. rows_graph a b rows) checks variables ∙ ap (rows_graph (checks_in f) (variables_in f)) rest

  both_counted : (counted (variables_in f) ≡ true) × (counted (checks_in f) ≡ true)
  both_counted = and_parts (counted (variables_in f)) (counted (checks_in f)) (yes_from_none (head_questions f) heads).1.1.1.0

  pub checks_counted : counted m ≡ true
  checks_counted = ap counted checks ∙ both_counted.1

  pub variables_counted : counted n ≡ true
  variables_counted = ap counted variables ∙ both_counted.0
