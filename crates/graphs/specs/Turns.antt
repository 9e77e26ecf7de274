-- Both ends of the edges, told the other way round. Assumes nothing.
use Rattle.std.proofs.Common.{sym}
use Rattle.std.specs.Prelude.{ℕ, List}
use Rattle.matrices.specs.Relations.{Paired}
use Rattle.graphs.specs.Tanners.{Tanner, Wired}
use Rattle.graphs.specs.Turning.{turned}

pub paired_turned : {most m n : ℕ} {of_row of_column : ℕ → List ℕ} → Paired most m n of_row of_column → Paired most n m of_column of_row
paired_turned p = record {
  same = λ v u hv hu. sym (p.same u v hu hv);
  row_apart = p.column_apart;
  column_apart = p.row_apart;
  row_within = p.column_within;
  column_within = p.row_within;
  row_few = p.column_few;
  column_few = p.row_few;
}

pub wired_turned : {t : Tanner} → Wired t → Wired (turned t)
wired_turned w = record {
  some_variables = w.some_checks;
  most_variables = w.most_checks;
  some_checks = w.some_variables;
  most_checks = w.most_variables;
  paired = paired_turned w.paired;
}
