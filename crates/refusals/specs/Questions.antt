-- The questions that calls ask: their numbers, and which refusal a call answers. Assumes nothing.
use Rattle.std.specs.Prelude.{ℕ, Bool, cond, List, [], ◌∷◌, Some, None, Ok, Err, Option, Result}
use Rattle.refusals.specs.declared.Refusal.{Refusal}
use Rattle.refusals.specs.declared.Refusal.TheVariants.{HeadCutShort, WrongMark, WrongVersion, CountOutOfRange, WrongLength, UnusedBitSet, DegreeOutOfRange, ShiftsNotRising, OddOverlap, UnknownSide, WrongPatternLength, NumberOutOfRange, NotDangling, NotInGenerator, NotAllOpen, NoSetLowers, OutputTooShort, OutOfMemory}

-- the number of each question, which a report prints when the reply is no; want of memory is no question, and has 0
abbrev pub number : Refusal → ℕ
number OutOfMemory = 0
number HeadCutShort = 1
number WrongMark = 2
number WrongVersion = 3
number CountOutOfRange = 4
number WrongLength = 5
number UnusedBitSet = 6
number DegreeOutOfRange = 7
number ShiftsNotRising = 8
number OddOverlap = 9
number UnknownSide = 10
number WrongPatternLength = 11
number NumberOutOfRange = 12
number NotDangling = 13
number NotInGenerator = 14
number NotAllOpen = 15
number NoSetLowers = 16
number OutputTooShort = 17

-- a question's reply, and the refusal that stands for no
abbrev pub Question : Type 0
Question = Bool × Refusal

-- the refusal of the first question whose reply is no
abbrev pub first_no : List Question → Option Refusal
first_no [] = None
first_no (q ∷ qs) = cond q.0 (first_no qs) (Some q.1)

-- what a call answers that asks questions and tells nothing else
abbrev pub answer : Option Refusal → Result (Unit {0}) Refusal
answer None = Ok tt
answer (Some e) = Err e

-- the first where every question was answered yes, and the second where a call was refused
abbrev pub where_accepted : {X : Type 0} → Option Refusal → X → X → X
where_accepted None x y = x
where_accepted (Some e) x y = y
