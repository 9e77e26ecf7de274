use Rattle.std.proofs.Common.{◌≡◌, ◌+◌, ◌-◌, ◌*◌, ◌≤◌, [], ◌∷◌, length, get_or, take, drop, ap, ◌∙◌, arith, rules, ltb-false, ltb-true}
use Rattle.std.proofs.lemmas.List.{length-drop, take_rest}
use Rattle.best_sets.specs.Walk.{walked}
use Rattle.best_sets.proofs.Steps.{room, room_less, small, walked_none, walked_pair, walked_some}
use Rattle.best_sets.proofs.+best_from.Goals as goal

pub with-requires : goal.with-requires
with-requires t c = (omega arith, omega (arith, small c.args.begun.picks (length c.args.rows.now) c.requires.few_sets))

pub without-requires : goal.without-requires
without-requires t c = omega (arith, small c.args.begun.picks (length c.args.rows.now) c.requires.few_sets)

pub returns-in-len2 : goal.returns-in-len2
returns-in-len2 t c =
    let b = c.args.begun in
    let last = get_or c.args.rows.now 1 [] ∷ [] in
    walked_pair c.args.rows.now b.left b.size b.picks c.args.best c.best_of_two.result c.best_of_two-in-len2.result (omega (arith, ltb-false, ltb-true))
    (c.best_of_two.ensures ∙ ap (λ s. walked last s.left s.size s.picks c.args.best) c.with.ensures)
    (c.best_of_two-in-len2.ensures ∙ ap (λ s. walked last s.left s.size s.picks c.best_of_two.result) c.without.ensures)

pub best_from-best-requires : goal.best_from-best-requires
best_from-best-requires t c =
    let some : 1 ≤ length c.args.rows.now = omega (arith, ltb-false) in
    let size : c.with-in-len1-up.result.size ≡ c.args.begun.size + 1 = ap (λ s. s.size) c.with-in-len1-up.ensures in
    let picks : c.with-in-len1-up.result.picks ≡ 2 * c.args.begun.picks + 1 = ap (λ s. s.picks) c.with-in-len1-up.ensures in
    (search rules, (simp (take_rest, length-drop) (omega arith), simp (take_rest, length-drop) (rw picks (room c.args.begun.picks (length c.args.rows.now) some c.requires.few_sets))))

pub best_from-requires : goal.best_from-requires
best_from-requires t c =
    let some : 1 ≤ length c.args.rows.now = omega (arith, ltb-false) in
    let size : c.without-in-len1-up.result.size ≡ c.args.begun.size = ap (λ s. s.size) c.without-in-len1-up.ensures in
    let picks : c.without-in-len1-up.result.picks ≡ 2 * c.args.begun.picks = ap (λ s. s.picks) c.without-in-len1-up.ensures in
    (search rules, (simp (take_rest, length-drop) (omega arith), simp (take_rest, length-drop) (rw picks (room_less c.args.begun.picks (length c.args.rows.now) some c.requires.few_sets))))

pub returns-in-empty : goal.returns-in-empty
returns-in-empty t c = walked_none c.args.rows.now c.args.begun.left c.args.begun.size c.args.begun.picks c.args.best c.choice.result c.or_better.result (omega (arith, ltb-true)) c.choice.ensures c.or_better.ensures

pub returns-in-len1-up : goal.returns-in-len1-up
returns-in-len1-up t c =
    let b = c.args.begun in
    let rest = take (length c.args.rows.now - 1) (drop 1 c.args.rows.now) in
    walked_some c.args.rows.now b.left b.size b.picks c.args.best c.best_from-best.result c.best_from.result (omega (arith, ltb-false))
    (c.best_from-best.ensures ∙ ap (λ s. walked rest s.left s.size s.picks c.args.best) c.with-in-len1-up.ensures)
    (c.best_from.ensures ∙ ap (λ s. walked rest s.left s.size s.picks c.best_from-best.result) c.without-in-len1-up.ensures)
