-- Lists within the limits are a code. Assumes nothing.
use Rattle.std.specs.Prelude.{◌≡◌, ℕ, ◌≤◌, true, not, List, length, nat_le}
use Rattle.std.proofs.Common.{subst, arith}
use Rattle.std.proofs.lemmas.Bool.{and_parts, leb-true, not-true}
use Rattle.patterns.specs.Sets.{has, parity, all_below}
use Rattle.patterns.proofs.Lists.{all_below_at}
use Rattle.matrices.specs.Relations.{Paired, listed, transposed, short}
use Rattle.matrices.proofs.Tables.{paired_listed}
use Rattle.codes.specs.Layouts.{Sound, most_weight}
use Rattle.written_codes.specs.Listing.{listed_code, most_written_qubits, most_written_rows, within, all_even}

in_range : (most n : ℕ) → within most n ≡ true → (1 ≤ n) × (n ≤ most)
in_range most n h = let both = and_parts (nat_le 1 n) (nat_le n most) h in (leb-true 1 n both.0, leb-true n most both.1)

module _ (checks by_check generators by_generator : List (List ℕ)) where
  pub sound_listed : checks ≡ transposed (length checks) by_check
      → by_check ≡ transposed (length by_check) checks
      → generators ≡ transposed (length generators) by_generator
      → by_generator ≡ transposed (length by_generator) generators
      → length by_generator ≡ length by_check
      → within most_written_qubits (length by_check) ≡ true
      → within most_written_rows (length checks) ≡ true
      → within most_written_rows (length generators) ≡ true
      → short most_weight checks ≡ true
      → short most_weight by_check ≡ true
      → short most_weight generators ≡ true
      → short most_weight by_generator ≡ true
      → all_even checks generators ≡ true
      → Sound (listed_code checks by_check generators by_generator)
  sound_listed c bc g bg same qubits rows others few-c few-bc few-g few-bg even = record {
    some_qubits = (in_range most_written_qubits (length by_check) qubits).0;
    few_qubits = omega (arith, (in_range most_written_qubits (length by_check) qubits).1);
    few_checks = omega (arith, (in_range most_written_rows (length checks) rows).1);
    few_generators = omega (arith, (in_range most_written_rows (length generators) others).1);
    by_check = paired_listed most_weight checks by_check c bc few-c few-bc;
    by_generator = subst (λ n. Paired most_weight (length generators) n (listed generators) (listed by_generator)) same (paired_listed most_weight generators by_generator g bg few-g few-bg);
    even = λ u k hu hk. not-true (parity (has (listed generators k)) (listed checks u))
        (all_below_at (length generators) (λ k. not (parity (has (listed generators k)) (listed checks u)))
        (all_below_at (length checks) (λ u. all_below (length generators) (λ k. not (parity (has (listed generators k)) (listed checks u)))) even u hu) k hk);
  }
