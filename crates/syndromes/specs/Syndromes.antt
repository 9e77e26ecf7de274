-- Syndromes over any code, and corrections that are alike. Assumes nothing.
use Rattle.std.specs.Prelude.{ℕ, Bool, not, ◌&&◌, List, [], ◌∷◌, Some, None, Ok, Err, Option, Result}
use Rattle.refusals.specs.declared.Refusal.{Refusal}
use Rattle.refusals.specs.declared.Refusal.TheVariants.{WrongPatternLength, UnusedBitSet}
use Rattle.refusals.specs.Questions.{Question}
use Rattle.patterns.specs.Sets.{Set, ◌⊕◌, parity, all_below}
use Rattle.patterns.specs.Patterns.{member, fitting, tidy, pattern}
use Rattle.codes.specs.Layouts.{Layout}

-- the syndrome of a set of qubits: the checks that hold an odd number of them
abbrev pub syndrome_of : Layout → Set → Set
syndrome_of c s u = parity s (c.of_check u)

-- what is asked before a syndrome is filled in
abbrev pub syndrome_questions : Layout → List ℕ → List ℕ → List Question
syndrome_questions c set out =
    (fitting c.qubits set && fitting c.checks out, WrongPatternLength)
    ∷ (tidy c.qubits set, UnusedBitSet)
    ∷ []

-- the pattern of the syndrome
abbrev pub syndrome_pattern : Layout → List ℕ → List ℕ
syndrome_pattern c set = pattern c.checks (syndrome_of c (member set))

-- what is asked before two corrections are compared
abbrev pub alike_questions : Layout → List ℕ → List ℕ → List Question
alike_questions c one two =
    (fitting c.qubits one && fitting c.qubits two, WrongPatternLength)
    ∷ (tidy c.qubits one && tidy c.qubits two, UnusedBitSet)
    ∷ []

-- corrections are alike when their syndromes are equal
abbrev pub alike_sets : Layout → Set → Set → Bool
alike_sets c s t = all_below c.checks (λ u. not (syndrome_of c s u ⊕ syndrome_of c t u))

-- the answer, or the refusal
abbrev pub alike_answer : Layout → List ℕ → List ℕ → Option Refusal → Result Bool Refusal
alike_answer c one two None = Ok (alike_sets c (member one) (member two))
alike_answer c one two (Some e) = Err e
