-- Which qubits of a check or a generator are in a set. Assumes nothing.
use Rattle.std.specs.Prelude.{ℕ, Bool, true, false, cond, not, ◌&&◌, List, [], ◌∷◌, Some, None, filter, Option, nat_lt}
use Rattle.patterns.specs.Sets.{Set, has}
use Rattle.codes.specs.Layouts.{Layout}

-- the one number of a list of one
abbrev pub single : List ℕ → Option ℕ
single [] = None
single (x ∷ []) = Some x
single (x ∷ y ∷ ys) = None

-- whether the list has no number
abbrev pub is_empty : List ℕ → Bool
is_empty [] = true
is_empty (x ∷ xs) = false

-- whether each number of the list is in the set
abbrev pub all_in : Set → List ℕ → Bool
all_in s [] = true
all_in s (x ∷ xs) = s x && all_in s xs

-- the qubits of check u that are in s
abbrev pub meeting : Layout → Set → ℕ → List ℕ
meeting c s u = filter s (c.of_check u)

-- whether no number of the list is in the set
abbrev pub none_in : Set → List ℕ → Bool
none_in s xs = is_empty (filter s xs)

-- whether some qubit of check u is in s; no, where there is no such check
abbrev pub meets : Layout → Set → ℕ → Bool
meets c s u = nat_lt u c.checks && not (none_in s (c.of_check u))

-- the one qubit of check u that is in s; none where there are more or fewer, or no such check
abbrev pub only_one : Layout → Set → ℕ → Option ℕ
only_one c s u = cond (nat_lt u c.checks) (single (meeting c s u)) None

-- whether generator g holds qubit v; no, where there is no such generator
abbrev pub held_by : Layout → ℕ → ℕ → Bool
held_by c g v = nat_lt g c.generators && has (c.of_generator g) v

-- whether all qubits of generator g are in s; no, where there is no such generator
abbrev pub all_held : Layout → Set → ℕ → Bool
all_held c s g = nat_lt g c.generators && all_in s (c.of_generator g)
