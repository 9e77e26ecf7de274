use Rattle.std.proofs.Common.{sym, ap, ◌∙◌}
use Rattle.refusals.proofs.Asking.{Yes, yes_from_none}
use Rattle.matrices.specs.Adjacent.{lists}
use Rattle.matrices.specs.Relations.{tabled}
use Rattle.matrices.specs.Rows.{entry, turned_entry}
use Rattle.matrices.proofs.Both.{Both, column_count, short_rows, short_columns}
use Rattle.codes.specs.Layouts.{most_weight}
use Rattle.written_codes.specs.Writing.{written_questions}
use Rattle.written_codes.proofs.Makes.{code_made, qubits_within, checks_within, generators_within, both_light, even_made}
use Rattle.written_codes.proofs.making.Sides.build.Goals as goal
use Rattle.written_codes.proofs.making.Sides.build.Goals.{In_ok-of-2}

-- the lists of both relations, and what the rows were asked
module _ (c : In_ok-of-2) where
  checks_made : let sides = c.args.self in Both sides.checks.rows sides.checks.columns sides.checks.bytes.now (lists c.in_ok-of.field-0.rows.nodes) (lists c.in_ok-of.field-0.columns.nodes)
  checks_made = let made = c.in_ok-of.ensures in record { rows_are = made.0; columns_are = made.1 }

  generators_made : let sides = c.args.self in Both sides.generators.rows sides.checks.columns sides.generators.bytes.now (lists c.in_ok-of-2.field-0.rows.nodes) (lists c.in_ok-of-2.field-0.columns.nodes)
  generators_made =
      let made = c.in_ok-of-2.ensures in
      let sides = c.args.self in
      let bytes = sides.generators.bytes.now in
      let k = sides.generators.rows in
      record {
        rows_are = made.0 ∙ ap (λ n. tabled k n (entry n bytes)) sides.same_qubits;
        columns_are = made.1 ∙ ap (λ n. tabled n k (turned_entry n bytes)) sides.same_qubits;
      }

  replies : let sides = c.args.self in Yes (written_questions sides.checks.columns sides.checks.rows sides.generators.rows sides.checks.bytes.now sides.generators.bytes.now)
  replies = let sides = c.args.self in yes_from_none (written_questions sides.checks.columns sides.checks.rows sides.generators.rows sides.checks.bytes.now sides.generators.bytes.now) c.requires

pub invariant_of-checks : goal.invariant_of-checks
invariant_of-checks c =
    let of_checks = checks_made c in
    let light = (both_light of_checks (generators_made c) (replies c)).0 in
    record { few_in_rows = short_rows of_checks most_weight light; few_in_columns = short_columns of_checks most_weight light }

pub invariant_of-generators : goal.invariant_of-generators
invariant_of-generators c =
    let at = (goal.at.invariant_of-generators c).In_ok-of-2 in
    let of_generators = generators_made at in
    let light = (both_light (checks_made at) of_generators (replies at)).1 in
    record { few_in_rows = short_rows of_generators most_weight light; few_in_columns = short_columns of_generators most_weight light }

pub invariant_of-result : goal.invariant_of-result
invariant_of-result c =
    let at = (goal.at.invariant_of-result c).In_ok-of-2 in
    let of_checks = checks_made at in
    let of_generators = generators_made at in
    record {
      same_qubits = column_count of_generators ∙ sym (column_count of_checks);
      qubits_in_range = qubits_within of_checks of_generators (replies at);
      checks_in_range = checks_within of_checks of_generators (replies at);
      generators_in_range = generators_within of_checks of_generators (replies at);
      even = even_made of_checks of_generators (replies at);
    }

pub returns : goal.returns
returns c = let at = (goal.at.returns c).In_ok-of-2 in code_made (checks_made at) (generators_made at)
