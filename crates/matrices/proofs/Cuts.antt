-- A row cut out of the bytes, with both ends held within them. Assumes nothing.
use Rattle.std.proofs.Common.{◌≡◌, ℕ, ◌+◌, ◌-◌, ◌≤◌, min, List, [], length, take, drop, sym, ap, ◌∙◌, ⊎_elim, arith}
use Rattle.std.proofs.lemmas.List.{take_all, drop_all, length-drop}
use Rattle.std.proofs.lemmas.Bool.{cases_lt}

take_least : {X : Type 0} (xs : List X) (w k : ℕ) → k ≡ min w (length xs) → take k xs ≡ take w xs
take_least xs w k e =
    ⊎_elim
    (λ l. let s : k ≡ w = omega arith in ap (λ n. take n xs) s)
    (λ l. take_all k xs (omega arith) ∙ sym (take_all w xs l))
    (cases_lt w (length xs))

pub cut_within : {X : Type 0} (xs : List X) (start w from to : ℕ)
    → from ≡ min start (length xs)
    → to ≡ min (from + w) (length xs)
    → take (to - from) (drop from xs) ≡ take w (drop start xs)
cut_within xs start w from to f t =
    ⊎_elim
    (λ l.
    let s : from ≡ start = omega arith in
    ap (λ n. take (to - from) (drop n xs)) s
    ∙ take_least (drop start xs) w (to - from) (omega (arith, length-drop start xs)))
    (λ l. past (to - from) from (omega arith) ∙ sym (past w start l))
    (cases_lt start (length xs))
  where
    past : (k n : ℕ) → length xs ≤ n → take k (drop n xs) ≡ []
    past k n h = ap (take k) (drop_all n xs h) ∙ take_all k [] (omega arith)
