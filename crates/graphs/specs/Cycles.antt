-- Cyclic graphs: as many checks as variables, and each check is joined to the variables at fixed shifts from it. Assumes nothing.
use Rattle.std.specs.Prelude.{ℕ, ◌+◌, ◌-◌, ◌%◌, Bool, true, ◌&&◌, List, [], ◌∷◌, map, length, Option, nat_le, nat_lt}
use Rattle.refusals.specs.declared.Refusal.{Refusal}
use Rattle.refusals.specs.declared.Refusal.TheVariants.{CountOutOfRange, DegreeOutOfRange, ShiftsNotRising}
use Rattle.refusals.specs.Questions.{first_no}
use Rattle.graphs.specs.Tanners.{Tanner, counted, most_neighbours}

-- whether the shifts rise strictly, from `low` on and below n
abbrev pub rising_from : ℕ → ℕ → List ℕ → Bool
rising_from low n [] = true
rising_from low n (s ∷ ss) = (nat_le low s && nat_lt s n) && rising_from (s + 1) n ss

-- whether the shifts rise strictly below n
abbrev pub rising : ℕ → List ℕ → Bool
rising n shifts = rising_from 0 n shifts

-- whether there are as many shifts as a node may have neighbours, and at least one
abbrev pub shift_count : List ℕ → Bool
shift_count shifts = nat_le 1 (length shifts) && nat_le (length shifts) most_neighbours

-- which question a cyclic graph of n variables and n checks answers with no
abbrev pub cyclic_refusal : ℕ → List ℕ → Option Refusal
cyclic_refusal n shifts =
    first_no (
    (counted n, CountOutOfRange)
    ∷ (shift_count shifts, DegreeOutOfRange)
    ∷ (rising n shifts, ShiftsNotRising)
    ∷ []
    )

-- check p is joined to the variables (p + shift) mod n, so variable v to the checks (v - shift) mod n
abbrev pub cyclic : ℕ → List ℕ → Tanner
cyclic n shifts = record {
  variables = n;
  checks = n;
  of_variable = λ v. map (λ s. (v + (n - s)) % n) shifts;
  of_check = λ p. map (λ s. (p + s) % n) shifts;
}
