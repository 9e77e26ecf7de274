use Rattle.std.proofs.Common.{◌∙◌}
use Rattle.std.proofs.lemmas.Result.{err_from_is_err_and}
use Rattle.refusals.specs.Questions.{first_no}
use Rattle.refusals.proofs.Asking.{first_no_front, answer_ok, answer_err}
use Rattle.graph_files.specs.Files.{variables_in, checks_in, rows_in, head_questions, row_questions, graph_refusal}
use Rattle.graph_files.proofs.Heads.{rows_refusal, checks_counted, variables_counted}
use Rattle.graph_files.proofs.reading.ask_graph.Goals as goal

pub returns-in_err-matrix : goal.returns-in_err-matrix
unfolding graph_refusal
returns-in_err-matrix c =
    let f = c.args.file.now in
    let p = err_from_is_err_and c.from_residual.result c.from_residual.ensures.1 in
    let first = first_no_front (head_questions f) (row_questions (checks_in f) (variables_in f) (rows_in f)) c.in_err-matrix.field-0.0 c.in_err-matrix.ensures in
    rw (p.1, p.2) first

pub returns-in_err-ask_rows : goal.returns-in_err-ask_rows
returns-in_err-ask_rows c =
    let f = c.args.file.now in
    let h = c.in_ok-matrix.matrix in
    let told = c.in_ok-matrix.ensures in
    let rows = h.bytes.now in
    let p = err_from_is_err_and c.from_residual-in_err-ask_rows.result c.from_residual-in_err-ask_rows.ensures.1 in
    let first = rows_refusal f rows h.rows h.columns told.0 told.1 told.2 told.3
    ∙ answer_err (first_no (row_questions h.rows h.columns rows)) c.in_err-ask_rows.field-0.0 c.in_err-ask_rows.ensures in
    rw (p.1, p.2) first

pub invariant_of-result : goal.invariant_of-result
invariant_of-result c =
    let f = c.args.file.now in
    let h = c.in_ok-matrix.matrix in
    let told = c.in_ok-matrix.ensures in
    let rows = h.bytes.now in
    record {
      checks_counted = checks_counted f rows h.rows h.columns told.0 told.1 told.2 told.3;
      variables_counted = variables_counted f rows h.rows h.columns told.0 told.1 told.2 told.3;
      accepted = answer_ok (first_no (row_questions h.rows h.columns rows)) c.in_ok-ask_rows.ensures;
    }

pub returns : goal.returns
returns c =
    let f = c.args.file.now in
    let h = c.in_ok-matrix.matrix in
    let told = c.in_ok-matrix.ensures in
    let rows = h.bytes.now in (
      rows_refusal f rows h.rows h.columns told.0 told.1 told.2 told.3
          ∙ answer_ok (first_no (row_questions h.rows h.columns rows)) c.in_ok-ask_rows.ensures,
      told.1,
      told.2,
      told.3,
    )
