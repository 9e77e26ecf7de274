-- From the walk over the sets to the best set of some qubits. Assumes nothing.
use Rattle.std.proofs.Common.{◌≡◌, ℕ, suc, ◌+◌, ◌-◌, ◌*◌, ◌/◌, ◌%◌, ◌^◌, ◌<◌, ◌≤◌, Bool, true, false, cond, eqb, List, [], ◌∷◌, ◌++◌, map, length, get_or, drop, Some, None, sym, refl, ap, ◌∙◌, ⊎_elim, pow-suc, arith, length-drop}
use native.Mathlib.Nat.{div-div-eq-div-mul}
use Rattle.std.specs.List.{Contains}
use Rattle.std.proofs.lemmas.List.{drop_more}
use Rattle.std.proofs.lemmas.List.Elements.{Contains-append_right}
use Rattle.std.proofs.lemmas.Bool.{eq-eqb, ne_eqb, lt-ltb, le-ltb, cases_lt}
use Rattle.patterns.specs.Sets.{has}
use Rattle.patterns.specs.Patterns.{bit, member, Well}
use Rattle.codes.specs.Layouts.{Layout, Sound}
use Rattle.best_sets.specs.declared.Choice.{Choice}
use Rattle.best_sets.specs.Walk.{weighed, walked, walk_of}
use Rattle.best_sets.specs.Best.{sets, best_set, lowering}
use Rattle.best_sets.proofs.Walks.{pick, lefts, number_from, leaf, walk_right}
use Rattle.best_sets.proofs.Steps.{walk_within}
use Rattle.best_sets.proofs.Laws.{best_is}
use Rattle.best_sets.proofs.Ranked.{no_less}
use Rattle.flips.specs.Local.{Marks, Rows, picked, BestBy}
use Rattle.flips.specs.Flips.{left_by}
use Rattle.flips.proofs.Near.{Local, far, local_weight}

-- the number of a set tells the set
number_high : (q : ℕ) (b : List Bool) → number_from q b / 2 ^ length b ≡ q
number_high q [] = omega arith
number_high q (true ∷ b) = ap (λ n. number_from (2 * q + 1) b / n) (pow-suc 2 (length b)) ∙ sym (div-div-eq-div-mul (number_from (2 * q + 1) b) (2 ^ length b) 2) ∙ ap (λ n. n / 2) (number_high (2 * q + 1) b) ∙ (omega arith)
number_high q (false ∷ b) = ap (λ n. number_from (2 * q) b / n) (pow-suc 2 (length b)) ∙ sym (div-div-eq-div-mul (number_from (2 * q) b) (2 ^ length b) 2) ∙ ap (λ n. n / 2) (number_high (2 * q) b) ∙ (omega arith)

pub picked_number : (p : ℕ) (b : List Bool) (xs : List ℕ) → length b ≡ length xs → picked (number_from p b) xs ≡ pick b xs
picked_number p [] [] e = refl
picked_number p [] (x ∷ xs) e = absurd (omega arith)
picked_number p (y ∷ b) [] e = absurd (omega arith)
picked_number p (true ∷ b) (x ∷ xs) e =
    let n = number_from (2 * p + 1) b in
    let same : length b ≡ length xs = omega arith in
    let odd : (2 * p + 1) % 2 ≡ 1 = omega arith in
    let on : bit n (length xs) ≡ true = ap (λ k. bit n k) (sym same) ∙ ap (λ m. eqb (m % 2) 1) (number_high (2 * p + 1) b) ∙ eq-eqb ((2 * p + 1) % 2) 1 odd in
    ap (λ t. cond t (x ∷ picked n xs) (picked n xs)) on ∙ ap (λ l. x ∷ l) (picked_number (2 * p + 1) b xs same)
picked_number p (false ∷ b) (x ∷ xs) e =
    let n = number_from (2 * p) b in
    let same : length b ≡ length xs = omega arith in
    let off : bit n (length xs) ≡ false = ap (λ k. bit n k) (sym same) ∙ ap (λ m. eqb (m % 2) 1) (number_high (2 * p) b) ∙ ne_eqb ((2 * p) % 2) 1 (λ z. omega arith) in
    ap (λ t. cond t (x ∷ picked n xs) (picked n xs)) off ∙ picked_number (2 * p) b xs same

has_empty : (xs : List ℕ) → Contains (sets xs) []
has_empty [] = (0, omega arith, refl)
has_empty (x ∷ xs) = Contains-append_right (map (λ s. x ∷ s) (sets xs)) (sets xs) [] (has_empty xs)

pub rows_length : (c : Layout) (ds xs : List ℕ) (rows : List (List ℕ)) → Rows c ds xs rows → length rows ≡ length xs
rows_length c ds [] [] r = refl
rows_length c ds [] (y ∷ rows) r = absurd r
rows_length c ds (x ∷ xs) [] r = absurd r
rows_length c ds (x ∷ xs) (y ∷ rows) r = ap suc (rows_length c ds xs rows r.1)

pub rows_push : (c : Layout) (ds xs : List ℕ) (rows : List (List ℕ)) (x : ℕ) (r : List ℕ) → Rows c ds xs rows → Marks ds (has (c.checks_of x)) r → Rows c ds (xs ++ x ∷ []) (rows ++ r ∷ [])
rows_push c ds [] [] x r h m = (m, tt)
rows_push c ds [] (y ∷ rows) x r h m = absurd h
rows_push c ds (z ∷ xs) [] x r h m = absurd h
rows_push c ds (z ∷ xs) (y ∷ rows) x r h m = (h.0, rows_push c ds xs rows x r h.1 m)

-- what the walk answers for at most twelve rows
module _ (rows : List (List ℕ)) (start : List ℕ) (few : length rows ≤ 12) where
  there_is_one : Some (walked rows start 0 0 (record { weight = weighed start; size = 0; picks = 0 })) ≡ walk_of rows start
  there_is_one = walk_within rows start (record { weight = weighed start; size = 0; picks = 0 }) (walked rows start 0 0 (record { weight = weighed start; size = 0; picks = 0 })) few refl refl

  pub walked_is : (r : Choice) → Some r ≡ walk_of rows start → r ≡ walked rows start 0 0 (record { weight = weighed start; size = 0; picks = 0 })
  walked_is r e = let one = there_is_one in cc

pub choice_right : (c : Layout) → Sound c → (remaining xs ds start : List ℕ) (rows : List (List ℕ)) → Well c.checks remaining → Local c (member remaining) xs ds start rows
    → (r : Choice) → r ≡ walked rows start 0 0 (record { weight = weighed start; size = 0; picks = 0 })
    → (r.weight ≤ weighed start) × BestBy (left_by c remaining) xs (weighed start - r.weight) r.picks
choice_right c sound remaining xs ds start rows well l r e =
    let w = left_by c remaining in
    let off = far c remaining ds in
    let fits : (b : List Bool) → length b ≡ length xs → w (pick b xs) ≡ off + weighed (lefts rows start b) = λ b h. local_weight c sound remaining xs ds start rows well l b in
    let walk = walk_right rows start xs w off l.rises (rows_length c ds xs rows l.by_row) fits in
    let v = walk.0 in
    let same : r ≡ leaf rows start 0 0 v = e ∙ walk.2 in
    let best : w (best_set w xs) ≡ off + r.weight = ap w walk.3 ∙ fits v walk.1 ∙ ap (λ x. off + x.weight) (sym same) in
    let none : w [] ≡ off + weighed start = local_weight c sound remaining xs ds start rows well l [] in
    let low : w (best_set w xs) ≤ w [] = no_less w [] (best_set w xs) ((best_is w xs).1 [] (has_empty xs)) in
    numbers (w (best_set w xs)) (w []) off r.weight (weighed start) best none low
    (λ le fall. (le, record { falls = fall; is = ap (λ x. picked x.picks xs) same ∙ picked_number 0 v xs walk.1 ∙ sym walk.3 }))
  where
    numbers : {R : Type 0} (a b off x y : ℕ) → a ≡ off + x → b ≡ off + y → a ≤ b → (x ≤ y → y - x ≡ b - a → R) → R
    numbers a b off x y p q h k = k (omega arith) (omega arith)

-- ---- the numbers of a set, one after another

module _ (n : ℕ) (xs : List ℕ) (i : ℕ) (here : i < length xs) where
  long : length (drop (i + 1) xs) ≡ length xs - 1 - i
  long = length-drop (i + 1) xs ∙ (omega arith)

  pub picked_on : n / 2 ^ (length xs - 1 - i) % 2 ≡ 1 → picked n (drop i xs) ≡ get_or xs i 0 ∷ picked n (drop (i + 1) xs)
  picked_on e =
      ap (picked n) (drop_more xs i 0 here)
      ∙ ap (λ b. cond b (get_or xs i 0 ∷ picked n (drop (i + 1) xs)) (picked n (drop (i + 1) xs))) (ap (bit n) long ∙ eq-eqb (n / 2 ^ (length xs - 1 - i) % 2) 1 e)

  pub picked_off : (n / 2 ^ (length xs - 1 - i) % 2 ≡ 1 → ⊥) → picked n (drop i xs) ≡ picked n (drop (i + 1) xs)
  picked_off e =
      ap (picked n) (drop_more xs i 0 here)
      ∙ ap (λ b. cond b (get_or xs i 0 ∷ picked n (drop (i + 1) xs)) (picked n (drop (i + 1) xs))) (ap (bit n) long ∙ ne_eqb (n / 2 ^ (length xs - 1 - i) % 2) 1 e)

-- ---- whether the best set lowers the weight

module _ (w : List ℕ → ℕ) (xs : List ℕ) (fall picks : ℕ) (best : BestBy w xs fall picks) where
  pub none_lowers : fall ≡ 0 → lowering w xs ≡ None
  unfolding lowering
  none_lowers z =
      let f = best.falls in
      ap (λ b. cond b (Some (best_set w xs)) None) (le-ltb (w (best_set w xs)) (w []) (omega arith))

  pub one_lowers : (fall ≡ 0 → ⊥) → lowering w xs ≡ Some (picked picks xs)
  unfolding lowering
  one_lowers some =
      let f = best.falls in
      let low : w (best_set w xs) < w [] = ⊎_elim (λ (h : w (best_set w xs) < w []). h) (λ (h : w [] ≤ w (best_set w xs)). absurd (some (omega arith))) (cases_lt (w (best_set w xs)) (w [])) in
      ap (λ b. cond b (Some (best_set w xs)) None) (lt-ltb (w (best_set w xs)) (w []) low) ∙ ap Some (sym best.is)
