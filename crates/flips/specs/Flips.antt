-- The set that a flip of a generator changes. Assumes nothing.
use Rattle.std.specs.Prelude.{ℕ, ◌-◌, cond, ◌&&◌, List, None, Option, nat_lt}
use Rattle.std.specs.Option.{option_map}
use Rattle.patterns.specs.Sets.{Set, has, parity, members}
use Rattle.patterns.specs.Patterns.{member, added, weight, fitting, tidy}
use Rattle.best_sets.specs.Best.{lowering}
use Rattle.codes.specs.Layouts.{Layout}

-- the qubits of generator g that are in s, in rising order
abbrev pub open_in : Layout → Set → ℕ → List ℕ
open_in c s g = members c.qubits (λ v. has (c.of_generator g) v && s v)

-- the remaining syndrome where the qubits of the list change: it changes by their syndrome
abbrev pub remaining_after : Layout → List ℕ → List ℕ → List ℕ
remaining_after c remaining f = added c.checks remaining (λ u. parity (has f) (c.of_check u))

-- the weight that is left then
abbrev pub left_by : Layout → List ℕ → List ℕ → ℕ
left_by c remaining f = weight (remaining_after c remaining f)

-- the best set of the open qubits of generator g, if it lowers the weight of the remaining syndrome
abbrev pub flip_set : Layout → List ℕ → List ℕ → ℕ → Option (List ℕ)
flip_set c remaining opened g = lowering (left_by c remaining) (open_in c (member opened) g)

-- a set with the fall of the weight that it brings
abbrev pub with_fall : Layout → List ℕ → List ℕ → ℕ × List ℕ
with_fall c remaining f = (weight remaining - left_by c remaining f, f)

-- that set with its fall; nothing where no set lowers the weight, where there is no such generator, or where the remaining syndrome is no pattern of the checks
abbrev pub best_flip : Layout → List ℕ → List ℕ → ℕ → Option (ℕ × List ℕ)
best_flip c remaining opened g = cond (fitting c.checks remaining && (tidy c.checks remaining && nat_lt g c.generators)) (option_map (with_fall c remaining) (flip_set c remaining opened g)) None
