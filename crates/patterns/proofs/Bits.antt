-- The bits of numbers: of an exclusive or, of an and, of a power of two. Assumes nothing.
use Rattle.std.proofs.Common.{◌≡◌, ℕ, ◌*◌, ◌/◌, ◌%◌, ◌^◌, ◌<◌, ◌≤◌, false, not, ◌&&◌, eqb, arith, pow_pos}
use lib.Bits.{bit_xor, bit_and}
use Rattle.std.proofs.lemmas.Grind.{common_steps}
use Rattle.std.proofs.lemmas.Nat.{one_shl}
use Rattle.std.proofs.lemmas.Nat.Bits.{bit_at_xor, bit_at_and, bit_at-pow_same, bit_at-pow_other, bit_at-zero, bit_at_above, and_pow}
use Rattle.patterns.specs.Sets.{◌⊕◌}
use Rattle.patterns.specs.Patterns.{bit}

pub bit_of_xor : (a b i : ℕ) → bit (bit_xor a b) i ≡ (bit a i ⊕ bit b i)
bit_of_xor a b i = grind (arith, common_steps, bit_at_xor a b i)

pub bit_of_and : (a b i : ℕ) → bit (bit_and a b) i ≡ (bit a i && bit b i)
bit_of_and a b i = grind (arith, common_steps, bit_at_and a b i)

pub bit_pow : (m i : ℕ) → bit (2 ^ m) i ≡ eqb m i
bit_pow m i = grind (arith, common_steps, bit_at-pow_same m, bit_at-pow_other m i)

pub bit_zero : (i : ℕ) → bit 0 i ≡ false
bit_zero i = grind (arith, common_steps, bit_at-zero i)

pub below_power : (b j : ℕ) → b / 2 ^ j ≡ 0 → b < 2 ^ j
below_power b j e = grind (arith, common_steps, pow_pos j)

-- no bit above what the number holds
pub bit_high : (b j i : ℕ) → b / 2 ^ j ≡ 0 → j ≤ i → bit b i ≡ false
bit_high b j i e h = grind (arith, common_steps, bit_at_above b j i (below_power b j e) h)

-- a test by a mask of one bit
pub and_bit : (n m : ℕ) → m < 8 → not (eqb (bit_and n ((1 * 2 ^ m) % 256)) 0) ≡ bit n m
and_bit n m h = rw (one_shl m 8 h, and_pow n m) (digit (n / 2 ^ m % 2) (2 ^ m) (omega arith) (pow_pos m))
  where
    digit : (x p : ℕ) → x < 2 → 0 < p → not (eqb (x * p) 0) ≡ eqb x 1
    digit x p small large = grind (arith, common_steps)
