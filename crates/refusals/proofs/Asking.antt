-- Questions one after another. Assumes nothing.
use Rattle.std.proofs.Common.{◌≡◌, true, List, [], ◌∷◌, ◌++◌, Some, None, Ok, Err, Option, refl, arith}
use Rattle.std.proofs.lemmas.Grind.{common_steps}
use Rattle.refusals.specs.declared.Refusal.{Refusal}
use Rattle.refusals.specs.Questions.{Question, first_no, answer}

-- every question is answered yes
abbrev pub Yes : List Question → Type 0
Yes [] = Unit {0}
Yes (q ∷ qs) = (q.0 ≡ true) × Yes qs

all_yes : (q : Question) (qs : List Question) → first_no (q ∷ qs) ≡ None → (q.0 ≡ true) × (first_no qs ≡ None)
all_yes q qs h = grind (arith, common_steps)

pub yes_from_none : (qs : List Question) → first_no qs ≡ None → Yes qs
yes_from_none [] h = tt
yes_from_none (q ∷ qs) h = let both = all_yes q qs h in (both.0, yes_from_none qs both.1)

pub none_from_yes : (qs : List Question) → Yes qs → first_no qs ≡ None
none_from_yes [] h = refl
none_from_yes (q ∷ qs) h = let rest = none_from_yes qs h.1 in grind (arith, common_steps)

pub first_no_front : (qs rs : List Question) (e : Refusal) → first_no qs ≡ Some e → first_no (qs ++ rs) ≡ Some e
first_no_front [] rs e h = cc
first_no_front (q ∷ qs) rs e h = grind (arith, common_steps, first_no_front qs rs e)

pub first_no_rest : (qs rs : List Question) → first_no qs ≡ None → first_no (qs ++ rs) ≡ first_no rs
first_no_rest [] rs h = refl
first_no_rest (q ∷ qs) rs h = grind (arith, common_steps, first_no_rest qs rs)

pub first_no_none : (qs rs : List Question) → first_no (qs ++ rs) ≡ None → first_no qs ≡ None
first_no_none [] rs h = refl
first_no_none (q ∷ qs) rs h = grind (arith, common_steps, first_no_none qs rs)

-- ---- answers

pub answer_ok : (r : Option Refusal) → Ok tt ≡ answer r → r ≡ None
answer_ok None h = refl
answer_ok (Some e) h = cc

pub answer_err : (r : Option Refusal) (e : Refusal) → Err e ≡ answer r → r ≡ Some e
answer_err None e h = cc
answer_err (Some d) e h = cc
