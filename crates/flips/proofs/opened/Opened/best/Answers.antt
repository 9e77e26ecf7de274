use Rattle.std.proofs.Common.{◌≡◌, ◌-◌, ◌≤◌, eqb, length, take, sym, ap, ◌∙◌, subst, arith, length-take}
use Rattle.patterns.specs.Patterns.{member}
use Rattle.best_sets.specs.Walk.{weighed, walk_of}
use Rattle.flips.specs.Local.{Marks, BestBy}
use Rattle.flips.specs.Flips.{left_by}
use Rattle.flips.proofs.Gathered.{Known, known}
use Rattle.flips.proofs.Marked.{marks_written}
use Rattle.flips.proofs.Near.{Local}
use Rattle.flips.proofs.Chosen.{walked_is, choice_right}
use Rattle.flips.proofs.opened.Opened.best.Goals as goal
use Rattle.flips.proofs.opened.Opened.best.Goals.{After-gather_checks-count, After-rows, After-deref, After-weigh}
use Rattle.flips.proofs.opened.Opened.best.Given.{Over}

known_here : (g : Over) (c : After-gather_checks-count g) → Known (g.C.Code.layout c.args.self.now.code.now) c.args.self.now.qubits.items (take c.gather_checks-count.result c.gather_checks-count.new.checks)
known_here g c = known (g.C.Code.layout c.args.self.now.code.now) (g.met.C.Code.sound c.args.self.now.code.now) c.args.self.now.qubits.items (take c.gather_checks-count.result c.gather_checks-count.new.checks) c.args.self.now.in_range c.gather_checks-count.ensures.is

long_here : (g : Over) (c : After-gather_checks-count g) → length (take c.gather_checks-count.result c.gather_checks-count.new.checks) ≡ c.gather_checks-count.result
long_here g c = omega (arith, length-take c.gather_checks-count.result c.gather_checks-count.new.checks, c.gather_checks-count.ensures.few, c.gather_checks-count.auto.checks)

local_here : (g : Over) (c : After-rows g) → Local (g.C.Code.layout c.args.self.now.code.now) (member c.args.remaining.now) c.args.self.now.qubits.items (take c.gather_checks-count.result c.gather_checks-count.new.checks) c.packed-start.result c.rows.result.items
local_here g c =
    let s = (goal.at.After-rows g c).After-gather_checks-count in
    let k = known_here g s in
    let ds = take c.gather_checks-count.result c.gather_checks-count.new.checks in
    let written = ap (λ n. take n c.read_parities.new.parities) (sym (long_here g s)) ∙ c.read_parities.ensures in
    record {
      rises = c.args.self.now.rising;
      within = c.args.self.now.in_range;
      apart = k.apart;
      checks = k.checks;
      few = omega (arith, long_here g s, c.gather_checks-count.ensures.few);
      meets = k.meets;
      starts = marks_written ds (member c.args.remaining.now) c.packed-start.result (subst (λ l. Marks l (eqb 1) c.packed-start.result) written c.packed-start.ensures);
      by_row = c.rows.ensures;
    }

few_here : (g : Over) (c : After-deref g) → length c.rows.result.items ≤ 12
few_here g c = subst (λ rows. length rows ≤ 12) c.deref.ensures.0 c.deref.ensures.1

found : (g : Over) (c : After-weigh g)
    → (c.in_ok-best.best.weight ≤ weighed c.packed-start.result) × BestBy (left_by (g.C.Code.layout c.args.self.now.code.now) c.args.remaining.now) c.args.self.now.qubits.items (weighed c.packed-start.result - c.in_ok-best.best.weight) c.in_ok-best.best.picks
found g c =
    let rows = c.rows.result.items in
    let start = c.packed-start.result in
    choice_right (g.C.Code.layout c.args.self.now.code.now) (g.met.C.Code.sound c.args.self.now.code.now) c.args.remaining.now c.args.self.now.qubits.items (take c.gather_checks-count.result c.gather_checks-count.new.checks) start rows
    (record { long = c.requires.fits; clean = c.requires.unused_zero })
    (local_here g (goal.at.After-weigh g c).After-rows)
    c.in_ok-best.best
    (walked_is rows start (few_here g (goal.at.After-weigh g c).After-deref) c.in_ok-best.best (c.in_ok-best.ensures.value ∙ ap (λ r. walk_of r start) c.deref.ensures.0))

pub rows-requires-clause-apart : goal.rows-requires-clause-apart
rows-requires-clause-apart g c = (known_here g (goal.at.rows-requires-clause-apart g c).After-gather_checks-count).apart

pub overflow_sub-result : goal.overflow_sub-result
overflow_sub-result g c = omega (arith, (found g (goal.at.overflow_sub-result g c).After-weigh).0, c.weigh.ensures)

pub returns : goal.returns
returns g c =
    subst (λ n. BestBy (left_by (g.C.Code.layout c.args.self.now.code.now) c.args.remaining.now) c.args.self.now.qubits.items (n - c.in_ok-best.best.weight) c.in_ok-best.best.picks)
    (sym c.weigh.ensures) (found g (goal.at.returns g c).After-weigh).1
