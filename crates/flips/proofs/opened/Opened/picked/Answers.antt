use Rattle.std.proofs.Common.{◌+◌, ◌-◌, ◌/◌, ◌%◌, ◌^◌, ◌<◌, [], ◌∷◌, ◌++◌, length, get_or, take, drop, sym, ap, ◌∙◌, ap₂, subst, append_assoc, arith, length-set}
use Rattle.std.proofs.lemmas.List.{take_more_set}
use Rattle.flips.specs.Local.{picked}
use Rattle.flips.proofs.Chosen.{picked_on, picked_off}
use Rattle.flips.proofs.opened.Opened.picked.Goals as goal
use Rattle.flips.proofs.opened.Opened.picked.Goals.{then-best-len-eq1, else-best-len-eq1}

pub loop-i-preserved : goal.loop-i-preserved
loop-i-preserved g c =
    let xs = c.args.self.now.qubits.items in
    let n = c.args.best.picks in
    let i = c.loop-i.i in
    let size = c.loop-i.size in
    let chosen = c.loop-i.chosen in
    let v = get_or c.deref-v-items.result.now i 0 in
    let rest = picked n (drop (i + 1) xs) in
    let here : i < length xs = subst (λ l. i < length l) c.deref-v-items.ensures.0 c.loop-i-test.true in
    let room : size < 12 = omega (arith, c.loop-i.invariant.few, c.deref-v-items.ensures.1, c.loop-i-test.true) in
    elim c.if-best-len-eq1.branch [
      | then-best-len-eq1 w ↦ record {
        long = ap length w.chosen-is ∙ length-set chosen size v ∙ c.loop-i.invariant.long;
        few = omega (arith, w.size-is, c.loop-i.invariant.few);
        is =
            ap₂ (λ k l. take k l ++ rest) w.size-is w.chosen-is
            ∙ ap (λ l. l ++ rest) (take_more_set chosen size v (omega (arith, c.loop-i.invariant.long, room)))
            ∙ append_assoc (take size chosen) (v ∷ []) rest
            ∙ ap (λ l. take size chosen ++ get_or l i 0 ∷ rest) c.deref-v-items.ensures.0
            ∙ sym (ap (λ l. take size chosen ++ l) (picked_on n xs i here (ap (λ m. n / 2 ^ (m - 1 - i) % 2) (sym c.len.ensures.value) ∙ w.if-best-len-eq1.true)))
            ∙ c.loop-i.invariant.is;
      }
      | else-best-len-eq1 w ↦ record {
        long = ap length w.chosen-is ∙ c.loop-i.invariant.long;
        few = omega (arith, w.size-is, c.loop-i.invariant.few);
        is =
            ap₂ (λ k l. take k l ++ rest) w.size-is w.chosen-is
            ∙ sym (ap (λ l. take size chosen ++ l) (picked_off n xs i here (λ e. w.if-best-len-eq1.false (ap (λ m. n / 2 ^ (m - 1 - i) % 2) c.len.ensures.value ∙ e))))
            ∙ c.loop-i.invariant.is;
      }
    ]
