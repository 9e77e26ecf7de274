-- Kinds of codes keep what every code keeps. Assumes nothing.
use Rattle.std.specs.Prelude.{ℕ, ◌≤◌, false, List, [], refl}
use Rattle.std.proofs.Common.{arith}
use Rattle.std.proofs.lemmas.Bool.{both_ways}
use Rattle.matrices.specs.Relations.{Paired}
use Rattle.graphs.specs.Tanners.{Tanner, Wired}
use Rattle.codes.specs.Layouts.{Sound, most_weight}
use Rattle.codes.specs.Baring.{bare}

-- limits that are not so narrow
pub paired_wider : {most m n : ℕ} {of_row of_column : ℕ → List ℕ} (more : ℕ) → most ≤ more → Paired most m n of_row of_column → Paired more m n of_row of_column
paired_wider more h p = record {
  same = p.same;
  row_apart = p.row_apart;
  column_apart = p.column_apart;
  row_within = p.row_within;
  column_within = p.column_within;
  row_few = λ u hu. omega (arith, p.row_few u hu);
  column_few = λ v hv. omega (arith, p.column_few v hv);
}

-- no rows
paired_none : (most n : ℕ) → Paired most 0 n (λ _. []) (λ _. [])
paired_none most n = record {
  same = λ u v hu hv. refl;
  row_apart = λ u hu. tt;
  column_apart = λ v hv. tt;
  row_within = λ u v hu e. absurd (both_ways false refl e);
  column_within = λ v u hv e. absurd (both_ways false refl e);
  row_few = λ u hu. omega arith;
  column_few = λ v hv. omega arith;
}

pub sound_bare : (t : Tanner) → Wired t → Sound (bare t)
sound_bare t w = record {
  some_qubits = w.some_variables;
  few_qubits = omega (arith, w.most_variables);
  few_checks = omega (arith, w.most_checks);
  few_generators = omega arith;
  by_check = paired_wider most_weight (omega arith) w.paired;
  by_generator = paired_none most_weight t.variables;
  even = λ u g hu hg. absurd (omega arith);
}
