-- Shifts that rise strictly below n make a graph. Assumes nothing.
use Rattle.std.specs.Prelude.{◌≡◌, ℕ, ◌+◌, ◌-◌, ◌%◌, ◌<◌, ◌≤◌, true, false, ◌&&◌, List, [], ◌∷◌, map, length, IfSome, Some, None, Option, ◌==◌, nat_le, nat_lt, refl}
use Rattle.std.proofs.Common.{sym, ap, ◌∙◌, subst, ⊎_elim, mod-lt, arith}
use Rattle.std.specs.List.{slice_get}
use Rattle.std.specs.Option.{option_map}
use Rattle.std.proofs.lemmas.List.{length-map}
use Rattle.std.proofs.lemmas.Option.{slice_get-map}
use Rattle.std.proofs.lemmas.Bool.{and_parts, or_cases, eqb-true, leb-true, ltb-true, lt-ltb, cond-true, cases_Bool, both_ways}
use Rattle.patterns.specs.Sets.{has, Apart}
use Rattle.patterns.proofs.Lists.{has_map_from, has_map_same, apart_map}
use Rattle.matrices.specs.Relations.{Paired, size_at, neighbour}
use Rattle.matrices.proofs.Lookups.{nth_has}
use Rattle.graphs.specs.Tanners.{Wired, counted, most_nodes, most_neighbours}
use Rattle.graphs.specs.Cycles.{rising_from, rising, shift_count, cyclic}
use Rattle.graphs.specs.Rotations.{both_ends, on_apart, back_apart}

pub rising_within : (low n : ℕ) (ss : List ℕ) → rising_from low n ss ≡ true → (s : ℕ) → has ss s ≡ true → (low ≤ s) × (s < n)
rising_within low n [] h s e = absurd (both_ways false refl e)
rising_within low n (x ∷ xs) h s e =
    let all = and_parts (nat_le low x && nat_lt x n) (rising_from (x + 1) n xs) h in
    let here = and_parts (nat_le low x) (nat_lt x n) all.0 in
    let above : low ≤ x = leb-true low x here.0 in
    let below : x < n = ltb-true x n here.1 in
    ⊎_elim
    (λ same. let is : x ≡ s = eqb-true x s same in (omega arith, omega arith))
    (λ later. let r = rising_within (x + 1) n xs all.1 s later in (omega (arith, r.0), r.1))
    (or_cases (x == s) (has xs s) e)

pub rising_apart : (low n : ℕ) (ss : List ℕ) → rising_from low n ss ≡ true → Apart ss
rising_apart low n [] h = tt
rising_apart low n (x ∷ xs) h =
    let rest : rising_from (x + 1) n xs ≡ true = (and_parts (nat_le low x && nat_lt x n) (rising_from (x + 1) n xs) h).1 in (
      ⊎_elim (λ e. let later : x + 1 ≤ x = (rising_within (x + 1) n xs rest x e).0 in absurd (omega arith)) (λ e. e) (cases_Bool (has xs x)),
      rising_apart (x + 1) n xs rest,
    )

-- each is below n
pub shift_below : (n : ℕ) (ss : List ℕ) → rising n ss ≡ true → (k : ℕ) (r : Option ℕ) → r ≡ slice_get ss k → IfSome r (λ s. s < n)
shift_below n ss h k None e = tt
shift_below n ss h k (Some s) e = (rising_within 0 n ss h s (nth_has ss k s e)).1

module _ (n : ℕ) (ss : List ℕ) (some : 1 ≤ n) (few : length ss ≤ most_neighbours) (rises : rising n ss ≡ true) where
  below : (s : ℕ) → has ss s ≡ true → s < n
  below s e = (rising_within 0 n ss rises s e).1

  in_range : (f : ℕ → ℕ) (k : ℕ) → has (map (λ s. f s % n) ss) k ≡ true → k < n
  in_range f k e = let r = has_map_from (λ s. f s % n) ss k e in subst (λ x. x < n) r.2 (mod-lt (f r.0) some)

  pub paired_cyclic : Paired most_neighbours n n (cyclic n ss).of_check (cyclic n ss).of_variable
  paired_cyclic = record {
    same = λ p v hp hv. has_map_same (λ s. (p + s) % n) (λ s. (v + (n - s)) % n) ss v p (λ s e. both_ends n p v s hp hv (below s e));
    row_apart = λ p hp. apart_map (λ s. (p + s) % n) ss (λ s t hs ht. on_apart n p s t hp (below s hs) (below t ht)) (rising_apart 0 n ss rises);
    column_apart = λ v hv. apart_map (λ s. (v + (n - s)) % n) ss (λ s t hs ht. back_apart n v s t hv (below s hs) (below t ht)) (rising_apart 0 n ss rises);
    row_within = λ p v hp e. in_range (λ s. p + s) v e;
    column_within = λ v p hv e. in_range (λ s. v + (n - s)) p e;
    row_few = λ p hp. omega (arith, length-map ss (λ s. (p + s) % n));
    column_few = λ v hv. omega (arith, length-map ss (λ s. (v + (n - s)) % n));
  }

pub wired_cyclic : (n : ℕ) (ss : List ℕ) → counted n ≡ true → shift_count ss ≡ true → rising n ss ≡ true → Wired (cyclic n ss)
wired_cyclic n ss count shifts rises =
    let range = and_parts (nat_le 1 n) (nat_le n most_nodes) count in
    let some : 1 ≤ n = leb-true 1 n range.0 in
    let most : n ≤ most_nodes = leb-true n most_nodes range.1 in
    let few : length ss ≤ most_neighbours = leb-true (length ss) most_neighbours (and_parts (nat_le 1 (length ss)) (nat_le (length ss) most_neighbours) shifts).1 in
    record {
      some_variables = some;
      most_variables = most;
      some_checks = some;
      most_checks = most;
      paired = paired_cyclic n ss some few rises;
    }

-- ---- what a mapped list answers

module _ (n : ℕ) (f : ℕ → ℕ → ℕ) (ss : List ℕ) (u : ℕ) (here : u < n) where
  pub size_mapped : Some (length ss) ≡ size_at n (λ u. map (f u) ss) u
  size_mapped = ap Some (sym (length-map ss (f u))) ∙ sym (cond-true (nat_lt u n) (Some (length (map (f u) ss))) None (lt-ltb u n here))

  at_node : (k : ℕ) → neighbour n (λ u. map (f u) ss) u k ≡ option_map (f u) (slice_get ss k)
  at_node k = cond-true (nat_lt u n) (slice_get (map (f u) ss) k) None (lt-ltb u n here) ∙ slice_get-map (f u) ss k

  pub neighbour_mapped : (k s : ℕ) → Some s ≡ slice_get ss k → Some (f u s) ≡ neighbour n (λ u. map (f u) ss) u k
  neighbour_mapped k s e = sym (at_node k ∙ ap (option_map (f u)) (sym e))

  pub neighbour_none : (k : ℕ) → None ≡ slice_get ss k → None ≡ neighbour n (λ u. map (f u) ss) u k
  neighbour_none k e = sym (at_node k ∙ ap (option_map (f u)) (sym e))
