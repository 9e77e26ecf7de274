use Rattle.std.proofs.Common.{ap, ◌∙◌}
use Rattle.refusals.proofs.Asking.{yes_from_none}
use Rattle.matrices.specs.Adjacent.{lists}
use Rattle.matrices.proofs.Both.{Both, row_count, column_count, short_rows, short_columns}
use Rattle.graphs.specs.Tanners.{counted, most_neighbours}
use Rattle.graph_files.specs.Files.{row_questions}
use Rattle.graph_files.proofs.reading.AskedGraph.build.Goals as goal
use Rattle.graph_files.proofs.reading.AskedGraph.build.Goals.{In_ok-relation}

made : (c : In_ok-relation) → let m = c.args.self.matrix in Both m.rows m.columns m.bytes.now (lists c.in_ok-relation.relation.rows.nodes) (lists c.in_ok-relation.relation.columns.nodes)
made c = let told = c.in_ok-relation.ensures in record { rows_are = told.0; columns_are = told.1 }

pub invariant_of-edges : goal.invariant_of-edges
invariant_of-edges c =
    let m = c.args.self.matrix in
    let few = (yes_from_none (row_questions m.rows m.columns m.bytes.now) c.args.self.accepted).1.1.0 in
    record { few_in_rows = short_rows (made c) most_neighbours few; few_in_columns = short_columns (made c) most_neighbours few }

pub invariant_of-result : goal.invariant_of-result
invariant_of-result c =
    let at = (goal.at.invariant_of-result c).In_ok-relation in
    record {
      checks_in_range = ap counted (row_count (made at)) ∙ c.args.self.checks_counted;
      variables_in_range = ap counted (column_count (made at)) ∙ c.args.self.variables_counted;
    }
