use Rattle.std.proofs.Common.{◌+◌, ◌&&◌, ltb, leb, get_or, drop, sym, ◌∙◌, ap₂, arith}
use Rattle.std.proofs.lemmas.List.{at_drop_more, at_drop_all}
use Rattle.std.proofs.lemmas.Bool.{le-leb, lt-leb, lt-ltb, le-ltb, and_left, and_right}
use Rattle.graphs.specs.Cycles.{rising_from}
use Rattle.graphs.proofs.cyclic.rises.Goals as goal
use Rattle.graphs.proofs.cyclic.rises.Goals.{then-s-low-via-then-s-low, then-s-low-via-else-s-low+then-s-count}

pub returns-then-s-low : goal.returns-then-s-low
returns-then-s-low c =
    let ss = c.args.shifts.now in
    let n = c.args.count in
    let low = c.loop-s.low in
    let i = c.loop-s.s-index in
    let s = get_or ss i 0 in
    let rest = rising_from (s + 1) n (drop (i + 1) ss) in
    sym (sym c.loop-s.invariant
    ∙ at_drop_more (rising_from low n) ss i 0 (omega arith)
    ∙ and_left (leb low s && ltb s n) rest
    (elim c.then-s-low.branch [
      | then-s-low-via-then-s-low w ↦ and_left (leb low s) (ltb s n) (lt-leb low s (omega (arith, w.if-s-low.true)))
      | then-s-low-via-else-s-low+then-s-count w ↦ and_right (leb low s) (ltb s n) (le-ltb s n (omega (arith, w.if-s-count.true)))
    ]))

pub loop-s-preserved : goal.loop-s-preserved
loop-s-preserved c =
    let ss = c.args.shifts.now in
    let n = c.args.count in
    let low = c.loop-s.low in
    let i = c.loop-s.s-index in
    let s = get_or ss i 0 in
    sym (at_drop_more (rising_from low n) ss i 0 (omega arith)
    ∙ ap₂ (λ a b. (a && b) && rising_from (s + 1) n (drop (i + 1) ss)) (le-leb low s (omega arith)) (lt-ltb s n (omega arith)))
    ∙ c.loop-s.invariant

pub returns : goal.returns
returns c = sym (at_drop_all (rising_from c.loop-s.low c.args.count) c.args.shifts.now c.loop-s.s-index (omega arith)) ∙ c.loop-s.invariant
