-- One step of the walk over the sets of the rows. Assumes nothing.
use Rattle.std.proofs.Common.{◌≡◌, ℕ, zero, suc, ◌+◌, ◌-◌, ◌*◌, ◌^◌, ◌<◌, ◌≤◌, Bool, true, false, cond, ◌&&◌, ◌||◌, eqb, leb, ltb, List, [], ◌∷◌, length, get_or, take, drop, Some, None, refl, sym, ap, ap₂, ◌∙◌, mul_assoc, le-mul_of_pos_right, arith, pow_pos, pow_mono}
use native.Mathlib.Nat.{pow-succ'}
use lib.Count.{ones}
use Rattle.std.specs.List.{sum_by}
use Rattle.std.specs.Ordering.{is_lt, nat_cmp, ordering_then}
use Rattle.std.specs.declared.cmp.Ordering.{Ordering}
use Rattle.std.specs.declared.cmp.Ordering.TheVariants.{Less, Equal, Greater}
use Rattle.std.specs.declared.cmp.Reverse.{Reverse}
use Rattle.std.proofs.lemmas.List.{take_rest}
use Rattle.std.proofs.lemmas.Bool.{le-leb, cond-true}
use Rattle.best_sets.specs.declared.Begun.{Begun}
use Rattle.best_sets.specs.declared.Choice.{Choice}
use Rattle.best_sets.specs.Walk.{changed_by, weighed, wins, walked, walk_of}

-- ---- room in the number of a set: of n rows that are left, each adds a bit

-- with the next row's bit a one
pub room : (p n : ℕ) → 0 < n → (p + 1) * 2 ^ n ≤ 4096 → (2 * p + 1 + 1) * 2 ^ (n - 1) ≤ 4096
room p zero h k = absurd (omega arith)
room p (suc n) h k =
    let e : suc n - 1 ≡ n = omega arith in
    let d : 2 * p + 1 + 1 ≡ (p + 1) * 2 = omega arith in
    let s : (2 * p + 1 + 1) * 2 ^ (suc n - 1) ≡ (p + 1) * 2 ^ suc n =
    ap (λ x. (2 * p + 1 + 1) * 2 ^ x) e ∙ ap (λ x. x * 2 ^ n) d ∙ mul_assoc (p + 1) 2 (2 ^ n) ∙ ap (λ x. (p + 1) * x) (sym (pow-succ' 2 n)) in
    omega arith

-- with the next row's bit a zero
pub room_less : (p n : ℕ) → 0 < n → (p + 1) * 2 ^ n ≤ 4096 → (2 * p + 1) * 2 ^ (n - 1) ≤ 4096
room_less p n h k = let r = room p n h k in let q = (2 ^ (n - 1)) in
    let s : (2 * p + 1 + 1) * q ≡ (2 * p + 1) * q + q = omega arith in omega arith

-- the number itself is small
pub small : (p n : ℕ) → (p + 1) * 2 ^ n ≤ 4096 → p < 4096
small p n k = omega (arith, le-mul_of_pos_right (p + 1) (pow_pos n))

-- ---- what is compared

-- two numbers are compared first, and what stands behind them where they are equal
then_less : (less same : Bool) (o : Ordering) → is_lt (ordering_then (cond less Less (cond same Equal Greater)) o) ≡ (less || (same && is_lt o))
then_less true same o = refl
then_less false true o = refl
then_less false false o = refl

-- the last two numbers
less_only : (less same : Bool) → is_lt (cond less Less (cond same Equal Greater)) ≡ less
less_only true same = refl
less_only false true = refl
less_only false false = refl

-- what a choice is compared by
abbrev pub key : Choice → ℕ × ℕ × Reverse ℕ
key c = (c.weight, c.size, record { 0 = c.picks })

-- comparisons one behind another, from the left or from the right
then_grouped : (a b c : Ordering) → ordering_then (ordering_then a b) c ≡ ordering_then a (ordering_then b c)
then_grouped Less b c = refl
then_grouped Equal b c = refl
then_grouped Greater b c = refl

-- the choice with the lesser key wins
pub key_wins : (a b : Choice) → is_lt (ordering_then (ordering_then (nat_cmp a.weight b.weight) (nat_cmp a.size b.size)) (nat_cmp b.picks a.picks)) ≡ wins a b
key_wins a b =
    ap is_lt (then_grouped (nat_cmp a.weight b.weight) (nat_cmp a.size b.size) (nat_cmp b.picks a.picks))
    ∙ then_less (ltb a.weight b.weight) (eqb a.weight b.weight) (ordering_then (nat_cmp a.size b.size) (nat_cmp b.picks a.picks))
    ∙ ap (λ t. ltb a.weight b.weight || (eqb a.weight b.weight && t))
    (then_less (ltb a.size b.size) (eqb a.size b.size) (nat_cmp b.picks a.picks)
    ∙ ap (λ t. ltb a.size b.size || (eqb a.size b.size && t)) (less_only (ltb b.picks a.picks) (eqb b.picks a.picks)))

-- ---- what the walk answers

-- the ones of three words, one word after another
pub weighed_sum : (ws : List ℕ) → length ws ≡ 3 → sum_by ones ws ≡ weighed ws
weighed_sum [] e = absurd (omega arith)
weighed_sum (a ∷ []) e = absurd (omega arith)
weighed_sum (a ∷ b ∷ []) e = absurd (omega arith)
weighed_sum (a ∷ b ∷ c ∷ []) e = omega arith
weighed_sum (a ∷ b ∷ c ∷ d ∷ ws) e = absurd (omega arith)

-- no row is left
pub walked_none : (rows : List (List ℕ)) (left : List ℕ) (size picks : ℕ) (best here r : Choice)
    → length rows < 1 → here ≡ record { weight = weighed left; size = size; picks = picks } → r ≡ cond (wins here best) here best → r ≡ walked rows left size picks best
unfolding walked
walked_none [] left size picks best here r h e w = w ∙ ap (λ x. cond (wins x best) x best) e
walked_none (x ∷ rows) left size picks best here r h e w = absurd (omega arith)

-- a choice is what a set that is done leaves
pub chosen_by : (s t : Begun) (c : Choice) → s ≡ t → c ≡ record { weight = weighed s.left; size = s.size; picks = s.picks } → c ≡ record { weight = weighed t.left; size = t.size; picks = t.picks }
chosen_by s t c e h = h ∙ ap (λ x. record { weight = weighed x.left; size = x.size; picks = x.picks }) e

-- one row is left: the set with it, and then the one without it
pub walked_one : (row left : List ℕ) (size picks : ℕ) (best with without one two : Choice)
    → with ≡ record { weight = weighed (changed_by left row); size = size + 1; picks = 2 * picks + 1 } → one ≡ cond (wins with best) with best
    → without ≡ record { weight = weighed left; size = size; picks = 2 * picks } → two ≡ cond (wins without one) without one
    → two ≡ walked (row ∷ []) left size picks best
unfolding walked
walked_one row left size picks best with without one two w e v f =
    let pick : Choice → Choice → Choice = λ x b. cond (wins x b) x b in
    f ∙ ap₂ pick v (e ∙ ap (λ x. pick x best) w)

-- two rows are left
pub walked_pair : (rows : List (List ℕ)) (left : List ℕ) (size picks : ℕ) (best one two : Choice) → length rows ≡ 2
    → one ≡ walked (get_or rows 1 [] ∷ []) (changed_by left (get_or rows 0 [])) (size + 1) (2 * picks + 1) best
    → two ≡ walked (get_or rows 1 [] ∷ []) left size (2 * picks) one
    → two ≡ walked rows left size picks best
unfolding walked
walked_pair [] left size picks best one two h e f = absurd (omega arith)
walked_pair (a ∷ []) left size picks best one two h e f = absurd (omega arith)
walked_pair (a ∷ b ∷ []) left size picks best one two h e f = f ∙ ap (walked (b ∷ []) left size (2 * picks)) e
walked_pair (a ∷ b ∷ x ∷ rows) left size picks best one two h e f = absurd (omega arith)

-- a list that is not empty, by its first place and the rest
pub walked_some : (rows : List (List ℕ)) (left : List ℕ) (size picks : ℕ) (best one two : Choice)
    → 1 ≤ length rows
    → one ≡ walked (take (length rows - 1) (drop 1 rows)) (changed_by left (get_or rows 0 [])) (size + 1) (2 * picks + 1) best
    → two ≡ walked (take (length rows - 1) (drop 1 rows)) left size (2 * picks) one
    → two ≡ walked rows left size picks best
unfolding walked
walked_some [] left size picks best one two h e f = absurd (omega arith)
walked_some (r ∷ rows) left size picks best one two h e f =
    let whole = take_rest (r ∷ rows) 1 in
    f ∙ ap (λ l. walked l left size (2 * picks) one) whole
    ∙ ap (walked rows left size (2 * picks)) (e ∙ ap (λ l. walked l (changed_by left r) (size + 1) (2 * picks + 1) best) whole)

-- ---- the choice itself

-- up to twelve rows fit from the start
pub room_at_start : (n : ℕ) → n ≤ 12 → (0 + 1) * 2 ^ n ≤ 4096
room_at_start n h = omega (arith, pow_mono h)

-- a choice among at most twelve rows
pub walk_within : (rows : List (List ℕ)) (start : List ℕ) (empty r : Choice) → length rows ≤ 12 → empty ≡ record { weight = weighed start; size = 0; picks = 0 }
    → r ≡ walked rows start 0 0 empty → Some r ≡ walk_of rows start
walk_within rows start empty r h e w =
    ap Some (w ∙ ap (walked rows start 0 0) e)
    ∙ sym (cond-true (leb (length rows) 12) (Some (walked rows start 0 0 (record { weight = weighed start; size = 0; picks = 0 }))) None (le-leb (length rows) 12 h))
