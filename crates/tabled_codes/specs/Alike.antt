-- Codes that tell the same of each of their nodes keep the same. Assumes nothing.
use Rattle.std.specs.Prelude.{◌≡◌, ℕ, ◌<◌, false, List, [], ◌∷◌, length}
use Rattle.std.proofs.Common.{sym, ap, ◌∙◌, subst, arith}
use Rattle.std.proofs.Math.Bool.{Bool-set}
use mathlib.Core.HLevel.{Unit-prop, ×_prop}
use Rattle.std.proofs.Math.Bridge.{le_prop}
use Rattle.patterns.specs.Sets.{has, parity, Apart}
use Rattle.matrices.specs.Relations.{Paired}
use Rattle.codes.specs.Layouts.{Layout, Sound}

-- ---- what a code keeps has one proof at most

apart_prop : (xs : List ℕ) → IsProp (Apart xs)
apart_prop [] = Unit-prop
apart_prop (x ∷ xs) = ×_prop (Bool-set (has xs x) false) (apart_prop xs)

paired_prop : (most m n : ℕ) (rows columns : ℕ → List ℕ) → IsProp (Paired most m n rows columns)
paired_prop most m n rows columns a b = λ i. record {
  same = λ u v hu hv. Bool-set (has (rows u) v) (has (columns v) u) (a.same u v hu hv) (b.same u v hu hv) i;
  row_apart = λ u hu. apart_prop (rows u) (a.row_apart u hu) (b.row_apart u hu) i;
  column_apart = λ v hv. apart_prop (columns v) (a.column_apart v hv) (b.column_apart v hv) i;
  row_within = λ u v hu e. le_prop (a.row_within u v hu e) (b.row_within u v hu e) i;
  column_within = λ v u hv e. le_prop (a.column_within v u hv e) (b.column_within v u hv e) i;
  row_few = λ u hu. le_prop (a.row_few u hu) (b.row_few u hu) i;
  column_few = λ v hv. le_prop (a.column_few v hv) (b.column_few v hv) i;
}

pub sound_prop : (c : Layout) → IsProp (Sound c)
sound_prop c a b = λ i. record {
  some_qubits = le_prop a.some_qubits b.some_qubits i;
  few_qubits = le_prop a.few_qubits b.few_qubits i;
  few_checks = le_prop a.few_checks b.few_checks i;
  few_generators = le_prop a.few_generators b.few_generators i;
  by_check = paired_prop 12 c.checks c.qubits c.of_check c.checks_of a.by_check b.by_check i;
  by_generator = paired_prop 12 c.generators c.qubits c.of_generator c.generators_of a.by_generator b.by_generator i;
  even = λ u g hu hg. Bool-set (parity (has (c.of_generator g)) (c.of_check u)) false (a.even u g hu hg) (b.even u g hu hg) i;
}

-- ---- the same of each node

-- code d has as many nodes as code c, and tells of each what c tells
pub record Alike (c d : Layout) : Type 0 where
  pub qubits : d.qubits ≡ c.qubits
  pub checks : d.checks ≡ c.checks
  pub generators : d.generators ≡ c.generators
  pub of_check : (u : ℕ) → u < c.checks → d.of_check u ≡ c.of_check u
  pub of_generator : (g : ℕ) → g < c.generators → d.of_generator g ≡ c.of_generator g
  pub checks_of : (v : ℕ) → v < c.qubits → d.checks_of v ≡ c.checks_of v
  pub generators_of : (v : ℕ) → v < c.qubits → d.generators_of v ≡ c.generators_of v

module _ (most m n m' n' : ℕ) (rows columns rows' columns' : ℕ → List ℕ)
    (em : m' ≡ m) (en : n' ≡ n)
    (er : (u : ℕ) → u < m → rows' u ≡ rows u) (ec : (v : ℕ) → v < n → columns' v ≡ columns v) where
  row : (u : ℕ) → u < m' → rows' u ≡ rows u
  row u h = er u (omega (arith, em))

  column : (v : ℕ) → v < n' → columns' v ≡ columns v
  column v h = ec v (omega (arith, en))

  paired_alike : Paired most m n rows columns → Paired most m' n' rows' columns'
  paired_alike p = record {
    same = λ u v hu hv. ap (λ l. has l v) (row u hu) ∙ p.same u v (omega (arith, em)) (omega (arith, en)) ∙ sym (ap (λ l. has l u) (column v hv));
    row_apart = λ u hu. subst Apart (sym (row u hu)) (p.row_apart u (omega (arith, em)));
    column_apart = λ v hv. subst Apart (sym (column v hv)) (p.column_apart v (omega (arith, en)));
    row_within = λ u v hu e. omega (arith, en, p.row_within u v (omega (arith, em)) (sym (ap (λ l. has l v) (row u hu)) ∙ e));
    column_within = λ v u hv e. omega (arith, em, p.column_within v u (omega (arith, en)) (sym (ap (λ l. has l u) (column v hv)) ∙ e));
    row_few = λ u hu. omega (arith, ap length (row u hu), p.row_few u (omega (arith, em)));
    column_few = λ v hv. omega (arith, ap length (column v hv), p.column_few v (omega (arith, en)));
  }

pub sound_alike : (c d : Layout) → Alike c d → Sound c → Sound d
sound_alike c d a s = record {
  some_qubits = omega (arith, a.qubits, s.some_qubits);
  few_qubits = omega (arith, a.qubits, s.few_qubits);
  few_checks = omega (arith, a.checks, s.few_checks);
  few_generators = omega (arith, a.generators, s.few_generators);
  by_check = paired_alike 12 c.checks c.qubits d.checks d.qubits c.of_check c.checks_of d.of_check d.checks_of a.checks a.qubits a.of_check a.checks_of s.by_check;
  by_generator = paired_alike 12 c.generators c.qubits d.generators d.qubits c.of_generator c.generators_of d.of_generator d.generators_of a.generators a.qubits a.of_generator a.generators_of s.by_generator;
  even = λ u g hu hg.
      let hu' : u < c.checks = omega (arith, a.checks) in
      let hg' : g < c.generators = omega (arith, a.generators) in
      ap (λ l. parity (has (d.of_generator g)) l) (a.of_check u hu')
      ∙ ap (λ l. parity (has l) (c.of_check u)) (a.of_generator g hg')
      ∙ s.even u g hu' hg';
}
