-- Relations on pairs are light, where one part moves along a side of a graph. Assumes nothing.
use Rattle.std.specs.Prelude.{◌≡◌, ℕ, ◌+◌, ◌-◌, ◌*◌, ◌/◌, ◌%◌, ◌^◌, ◌<◌, ◌≤◌, true, List, length, nat_lt}
use Rattle.std.proofs.Common.{map, ap, arith, ⊎_elim}
use Rattle.std.proofs.lemmas.Bool.{cases_lt, lt-ltb, le-ltb, cond-true, cond-false}
use Rattle.std.proofs.lemmas.Nat.{div_below, mod_below, mul-le}
use Rattle.std.proofs.lemmas.List.{length-append, length-map}
use Rattle.patterns.specs.Sets.{has}
use Rattle.graphs.specs.Tanners.{most_nodes, most_neighbours}
use Rattle.products.specs.Pairs.{by_first, by_second, two_blocks, in_block}
use Rattle.products.specs.Pairing.{first_within, first_few, second_within, second_few}
use Rattle.products.specs.Sides.{Sided}

-- the most pairs of a node and a node
abbrev pub most_pairs : ℕ
most_pairs = 9216

-- there are few nodes; each has few neighbours, which have small numbers
pub record Light (nodes : ℕ) (rows : ℕ → List ℕ) : Type 0 where
  pub few : nodes ≤ most_pairs
  pub few_rows : (u : ℕ) → u < nodes → length (rows u) ≤ most_neighbours
  pub within : (u v : ℕ) → u < nodes → has (rows u) v ≡ true → v < most_pairs

pub light_first : {m n w y : ℕ} {rows other : ℕ → List ℕ} → Sided m n rows → Sided w y other → Light (m * w) (by_first w rows)
light_first {m} {n} {w} {y} {rows} s t = record {
  few = mul-le m w most_nodes most_nodes s.few t.few;
  few_rows = λ u h. first_few w t.some rows most_neighbours u (s.light (u / w) (div_below u w m t.some h));
  within = λ u v h e.
      let at = first_within w t.some rows n u v (λ x. s.within (u / w) x (div_below u w m t.some h)) e in
      omega (arith, at, mul-le n w most_nodes most_nodes s.few_across t.few);
}

pub light_second : {m n w y : ℕ} {rows other : ℕ → List ℕ} → Sided m n other → Sided w y rows → Light (m * w) (by_second w y rows)
light_second {m} {n} {w} {y} {rows} s t = record {
  few = mul-le m w most_nodes most_nodes s.few t.few;
  few_rows = λ u h. second_few w y rows most_neighbours u (t.light (u % w) (mod_below u w t.some));
  within = λ u v h e.
      let at = second_within w y rows m u v (div_below u w m t.some h) (λ x. t.within (u % w) x (mod_below u w t.some)) e in
      omega (arith, at, mul-le m y most_nodes most_nodes s.few t.few_across);
}

pub short_light : {m : ℕ} {rows : ℕ → List ℕ} → Light m rows → (u : ℕ) → u < m → length (rows u) < 2 ^ 32
short_light l u h = omega (arith, l.few_rows u h)

pub short_two_blocks : {m n : ℕ} {one two : ℕ → List ℕ} (start : ℕ) → Light m one → Light n two → n ≡ m → (u : ℕ) → u < m → length (two_blocks start one two u) < 2 ^ 32
short_two_blocks {m} {n} {one} {two} start a b e u h =
    omega (arith, length-append (one u) (map (λ v. start + v) (two u)), length-map (two u) (λ v. start + v), a.few_rows u h, b.few_rows u (omega (arith, e)))

pub short_in_block : {m n : ℕ} {one two : ℕ → List ℕ} → Light m one → Light n two → (v : ℕ) → v < m + n → length (in_block m one two v) < 2 ^ 32
short_in_block {m} {n} {one} {two} a b v h =
    ⊎_elim
    (λ l. omega (arith, ap length (cond-true (nat_lt v m) (one v) (two (v - m)) (lt-ltb v m l)), a.few_rows v l))
    (λ l. omega (arith, ap length (cond-false (nat_lt v m) (one v) (two (v - m)) (le-ltb v m l)), b.few_rows (v - m) (omega arith)))
    (cases_lt v m)
