use Rattle.std.proofs.Common.{sym, ◌∙◌}
use Rattle.written_codes.specs.Held.{code_of}
use Rattle.foreign.proofs.Making.{rows_split, rows_made}
use Rattle.foreign.proofs.told_codes.of_rows.Goals as goal

pub returns : goal.returns
returns c =
    let a = c.in-Some.check_rows.now in
    let b = c.in-Some.generator_rows.now in
    let n = c.from-qubits.result in
    let k = c.from-2.result in
    let l = c.from-3.result in
    sym (rows_split c.args.qubits c.args.checks c.args.generators n k l c.from.result c.width.result c.args.rows.now a b c.from-qubits.ensures c.from-2.ensures c.from-3.ensures c.from.ensures c.width.ensures c.in-Some.ensures.cases)
    ∙ rows_made n k l a b (code_of c.in_ok-make_code.field-0) c.in_ok-make_code.ensures
