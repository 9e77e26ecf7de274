-- Tables that were written from a code tell that code. Assumes nothing.
use Rattle.std.proofs.Common.{◌≡◌, ℕ, ◌<◌, List, [], length, ap, ◌∙◌, ⊎_elim, arith}
use mathlib.Core.Path.{fun_ext}
use Rattle.std.proofs.lemmas.Bool.{cases_lt}
use Rattle.std.proofs.lemmas.List.FromFn.{length-map-range_with_len, get_or-map-range_with_len}
use Rattle.matrices.specs.Relations.{listed}
use Rattle.codes.specs.Layouts.{Layout, Sound}
use Rattle.tabled_codes.specs.declared.table.Table.{Table}
use Rattle.tabled_codes.specs.Rows.{lists, rows_of}
use Rattle.tabled_codes.specs.Laid.{nodes_of, rows_over, laid}
use Rattle.tabled_codes.proofs.Reading.{over_here, over_past}
use Rattle.tabled_codes.specs.Alike.{sound_alike}

-- the table was written from m nodes
abbrev pub Holds : ℕ → (ℕ → List ℕ) → Table → Type 0
Holds m rows t = lists t.nodes ≡ rows_of m rows

module _ (m : ℕ) (rows : ℕ → List ℕ) (t : Table) (holds : Holds m rows t) where
  nodes_told : nodes_of t ≡ m
  nodes_told = ap length holds ∙ length-map-range_with_len rows 0 m

  rows_told : (rest : ℕ → List ℕ) (u : ℕ) → u < m → rows_over t rest u ≡ rows u
  rows_told rest u h =
      over_here (lists t.nodes) rest u (omega (arith, nodes_told))
      ∙ ap (λ l. listed l u) holds
      ∙ get_or-map-range_with_len rows 0 m u u [] h (omega arith)

  all_rows_told : rows_over t rows ≡ rows
  all_rows_told =
      fun_ext
      (λ u.
      ⊎_elim
      (rows_told rows u)
      (λ l. over_past (lists t.nodes) rows u (omega (arith, nodes_told)))
      (cases_lt u m))

module _ (c : Layout) (sound : Sound c) (checks generators by_check by_generator : Table)
    (h : Holds c.checks c.of_check checks) (k : Holds c.generators c.of_generator generators)
    (x : Holds c.qubits c.checks_of by_check) (z : Holds c.qubits c.generators_of by_generator) where
  pub same_qubits : nodes_of by_generator ≡ nodes_of by_check
  same_qubits =
      let a = nodes_told c.qubits c.generators_of by_generator z in
      let b = nodes_told c.qubits c.checks_of by_check x in
      omega (arith, a, b)

  pub sound_laid : (rest : Layout) → Sound (laid checks generators by_check by_generator rest)
  sound_laid rest =
      sound_alike c (laid checks generators by_check by_generator rest)
      record {
        qubits = nodes_told c.qubits c.checks_of by_check x;
        checks = nodes_told c.checks c.of_check checks h;
        generators = nodes_told c.generators c.of_generator generators k;
        of_check = rows_told c.checks c.of_check checks h rest.of_check;
        of_generator = rows_told c.generators c.of_generator generators k rest.of_generator;
        checks_of = rows_told c.qubits c.checks_of by_check x rest.checks_of;
        generators_of = rows_told c.qubits c.generators_of by_generator z rest.generators_of;
      }
      sound

  pub laid_same : laid checks generators by_check by_generator c ≡ c
  laid_same = λ i. record {
    qubits = nodes_told c.qubits c.checks_of by_check x i;
    checks = nodes_told c.checks c.of_check checks h i;
    generators = nodes_told c.generators c.of_generator generators k i;
    of_check = all_rows_told c.checks c.of_check checks h i;
    of_generator = all_rows_told c.generators c.of_generator generators k i;
    checks_of = all_rows_told c.qubits c.checks_of by_check x i;
    generators_of = all_rows_told c.qubits c.generators_of by_generator z i;
  }
