use Rattle.std.proofs.Common.{◌≡◌, ℕ, List, ◌++◌, length, filter, take, sym, ap, ◌∙◌, subst, append-nil, arith, take_all}
use Rattle.std.specs.List.{refill}
use Rattle.std.specs.List.Sorted.{IsPermutation}
use Rattle.std.proofs.lemmas.List.{drop_all}
use Rattle.std.proofs.lemmas.List.Sorted.{IsNonDecreasingBy-from_sort}
use Rattle.patterns.specs.Patterns.{member}
use Rattle.flips.proofs.Ordered.{open_sorted}
use Rattle.flips.proofs.opening.open_qubits.Goals as goal

-- a slice that was written whole
rewritten : (xs ys : List ℕ) → length ys ≡ length xs → refill (length xs) xs ys ≡ ys
rewritten xs ys e =
    ap (λ l. take (length xs) (ys ++ l)) (drop_all (length ys) xs (omega arith))
    ∙ ap (take (length xs)) (append-nil ys)
    ∙ take_all (length xs) ys (omega arith)

pub returns : goal.returns
returns g c =
    let l = g.C.Code.layout c.args.code.now in
    let s = member c.args.opened.now in
    let kept = sym (append-nil c.loop-v.qubits.items) ∙ ap (λ us. c.loop-v.qubits.items ++ filter s us) (sym c.in-None.ensures.steps.0) ∙ c.loop-v.invariant.is in
    let sorted = c.sort_unstable.new.self in
    let from = c.deref_mut.ensures.value in
    rewritten c.loop-v.qubits.items sorted (c.sort_unstable.ensures.len ∙ ap length from)
    ∙ open_sorted l (g.met.C.Code.sound c.args.code.now) s c.args.g.0 sorted c.requires (subst (λ us. IsPermutation us sorted) (from ∙ kept) c.sort_unstable.ensures.permutation) (IsNonDecreasingBy-from_sort (λ x. x) sorted c.sort_unstable.ensures.sorted)
