use Rattle.std.proofs.Common.{◌≡◌, ◌<◌, true, sym, ap, ◌∙◌, subst, arith}
use Rattle.patterns.specs.Patterns.{fitting, tidy}
use Rattle.flips.specs.Local.{BestBy}
use Rattle.flips.specs.Flips.{left_by}
use Rattle.flips.proofs.Picked.{none_flips, one_flips}
use Rattle.flips.proofs.finding.best_flip.Goals as goal
use Rattle.flips.proofs.finding.best_flip.Goals.{After-of-open, After-best}
use Rattle.flips.proofs.finding.best_flip.Given.{Over}

long : (g : Over) (c : After-of-open g) → fitting (g.C.Code.layout c.args.code.now).checks c.args.remaining.now ≡ true
long g c = sym (c.if-not-fits.ensures.value ∙ ap (λ n. fitting n c.args.remaining.now) c.checks-checks.ensures)

clean : (g : Over) (c : After-of-open g) → tidy (g.C.Code.layout c.args.code.now).checks c.args.remaining.now ≡ true
clean g c = sym (c.if-not-unused_are_zero.ensures ∙ ap (λ n. tidy n c.args.remaining.now) c.checks-checks.ensures)

below : (g : Over) (c : After-of-open g) → c.args.g.0 < (g.C.Code.layout c.args.code.now).generators
below g c = omega (arith, c.if-g-generators.false, c.generators.ensures)

pub returns-then-best-eq0 : goal.returns-then-best-eq0
returns-then-best-eq0 g c =
    let s = (goal.at.returns-then-best-eq0 g c).After-of-open in
    let l = g.C.Code.layout c.args.code.now in
    let xs = c.of-open.result.qubits.items in
    let b = c.in_ok-best.best in
    none_flips l c.args.remaining.now c.args.opened.now c.args.g.0 (long g s) (clean g s) (below g s) xs c.of-open.ensures.qubits b.fall b.picks
    (subst (λ a. BestBy (left_by (g.C.Code.layout a) c.args.remaining.now) xs b.fall b.picks) c.of-open.ensures.code c.in_ok-best.ensures) c.if-best-eq0.true

pub returns : goal.returns
returns g c =
    let s = (goal.at.returns g c).After-of-open in
    let l = g.C.Code.layout c.args.code.now in
    let xs = c.of-open.result.qubits.items in
    let b = c.in_ok-best.best in
    one_flips l c.args.remaining.now c.args.opened.now c.args.g.0 (long g s) (clean g s) (below g s) xs c.of-open.ensures.qubits b.fall b.picks
    (subst (λ a. BestBy (left_by (g.C.Code.layout a) c.args.remaining.now) xs b.fall b.picks) c.of-open.ensures.code c.in_ok-best.ensures) c.if-best-eq0.false
    c.picked.result c.picked.ensures
