use Rattle.std.proofs.Common.{◌+◌, drop, sym, ap, ◌∙◌, arith}
use Rattle.std.proofs.lemmas.List.{at_drop_more, at_drop_all}
use Rattle.patterns.specs.Patterns.{toggled_all}
use Rattle.moves.proofs.changes.toggle_all.Goals as goal

pub loop-k-preserved : goal.loop-k-preserved
loop-k-preserved c =
    let xs = c.args.items.now in
    let i = c.loop-k.k-index in
    ap (λ p. toggled_all p (drop (i + 1) xs)) c.toggle.ensures.after ∙ sym (at_drop_more (toggled_all c.loop-k.bits) xs i 0 (omega arith)) ∙ c.loop-k.invariant

pub returns : goal.returns
returns c = sym (at_drop_all (toggled_all c.loop-k.bits) c.args.items.now c.loop-k.k-index (omega arith)) ∙ c.loop-k.invariant
