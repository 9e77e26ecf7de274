use Rattle.std.proofs.Common.{ℕ, ◌+◌, false, eqb, List, [], get_or, take, sym, refl, ◌∙◌, subst, arith}
use Rattle.std.proofs.lemmas.Bool.{both_ways, eq-eqb, ne_eqb}
use Rattle.flips.specs.Local.{Marks}
use Rattle.flips.proofs.Marked.{marks_none, marks_next, marks_skip}
use Rattle.flips.proofs.marks.packed.Goals as goal
use Rattle.flips.proofs.marks.packed.Goals.{then-parity-eq1, else-parity-eq1}

pub loop-j-init : goal.loop-j-init
loop-j-init c = marks_none [] (eqb 1) (λ u h. absurd (both_ways false refl h))

pub loop-j-preserved : goal.loop-j-preserved
loop-j-preserved c =
    let ds = c.args.parities.now in
    let p = eqb 1 in
    let j = c.loop-j.j in
    let M : List ℕ → Type 0 = Marks (take (j + 1) ds) p in
    elim c.if-parity-eq1.branch [
      | then-parity-eq1 w ↦ subst M (sym (w.words-is ∙ w.mark.ensures)) (marks_next ds p c.loop-j.words j (omega arith) c.requires (sym (eq-eqb 1 (get_or ds j 0) (sym w.if-parity-eq1.true))) c.loop-j.invariant)
      | else-parity-eq1 w ↦ subst M (sym w.words-is) (marks_skip ds p c.loop-j.words j (omega arith) (sym (ne_eqb 1 (get_or ds j 0) (λ e. w.if-parity-eq1.false (sym e)))) c.loop-j.invariant)
    ]
