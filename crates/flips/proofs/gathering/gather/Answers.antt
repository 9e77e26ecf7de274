use Rattle.std.proofs.Common.{◌≡◌, ◌<◌, true, false, length, take, sym, ap, ◌∙◌, arith, length-set}
use Rattle.std.proofs.lemmas.List.{take_more_set}
use Rattle.patterns.specs.Sets.{has}
use Rattle.flips.proofs.Gathered.{listed, gathered_old, gathered_new}
use Rattle.flips.proofs.gathering.gather.Goals as goal

pub loop-u-preserved-then-not-contains : goal.loop-u-preserved-then-not-contains
loop-u-preserved-then-not-contains g c =
    let u = c.in-Some.u in
    let n = c.loop-u.n in
    let xs = c.loop-u.checks in
    let steps = c.in-Some.ensures.steps in
    let fresh : has (take n xs) u ≡ false = sym (listed (take n xs) u) ∙ sym c.contains.ensures.value ∙ c.if-not-contains.true in
    let room : n < length xs = omega (arith, ap length steps, c.loop-u.invariant.long, c.loop-u.invariant.few, c.requires.count_bound) in
    record {
      long = length-set xs n u ∙ c.loop-u.invariant.long;
      few = omega (arith, ap length steps, c.loop-u.invariant.few);
      is = gathered_new (take n xs) _ _ _ _ u fresh (take_more_set xs n u room) steps c.loop-u.invariant.is;
    }

pub loop-u-preserved : goal.loop-u-preserved
loop-u-preserved g c =
    let u = c.in-Some.u in
    let ds = take c.loop-u.n c.loop-u.checks in
    let steps = c.in-Some.ensures.steps in
    let there : has ds u ≡ true = sym (listed ds u) ∙ sym c.contains.ensures.value ∙ c.if-not-contains.false in
    record {
      long = c.loop-u.invariant.long;
      few = omega (arith, ap length steps, c.loop-u.invariant.few);
      is = gathered_old ds _ _ _ u there steps c.loop-u.invariant.is;
    }
