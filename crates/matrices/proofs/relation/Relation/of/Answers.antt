use Rattle.matrices.specs.Adjacent.{lists}
use Rattle.matrices.specs.Rows.{entry, turned_entry}
use Rattle.matrices.proofs.Tables.{told_tabled}
use Rattle.matrices.proofs.relation.Relation.of.Goals as goal

pub invariant_of-result : goal.invariant_of-result
invariant_of-result c =
    let n = c.args.matrix.columns in
    let bytes = c.args.matrix.bytes.now in
    let m = c.args.matrix.rows in
    let rows = lists c.in_ok-rows.rows.nodes in
    let columns = lists c.in_ok-columns.columns.nodes in
    let r = c.in_ok-rows.ensures in
    let k = c.in_ok-columns.ensures in
    record {
      by_row = told_tabled m n (entry n bytes) rows columns r k;
      by_column = told_tabled n m (turned_entry n bytes) columns rows k r;
    }
