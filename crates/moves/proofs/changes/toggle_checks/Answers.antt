use Rattle.std.proofs.Common.{[], sym, ap, ◌∙◌}
use Rattle.std.proofs.lemmas.Bool.{cond-true, lt-ltb}
use Rattle.patterns.specs.Patterns.{toggled_all}
use Rattle.patterns.proofs.Toggled.{toggled_all_is}
use Rattle.codes.proofs.Walks.{rest_by_check, start_by_check}
use Rattle.moves.proofs.changes.toggle_checks.Goals as goal

pub loop-u-init : goal.loop-u-init
loop-u-init g c = ap (toggled_all c.args.remaining.now) (start_by_check g.C.Code.layout c.args.code c.args.v.0 (c.into_iter-u-iterator.ensures.into_iter_gives ∙ c.of-u-items.ensures))

pub loop-u-preserved : goal.loop-u-preserved
loop-u-preserved g c =
    ap (λ p. toggled_all p (rest_by_check g.C.Code.layout c.next.new.self)) c.toggle.ensures.after
    ∙ sym (ap (toggled_all c.loop-u.remaining) c.in-Some.ensures.steps)
    ∙ c.loop-u.invariant

pub returns : goal.returns
returns g c =
    let l = g.C.Code.layout c.args.code.now in
    let v = c.args.v.0 in
    let paired = (g.met.C.Code.sound c.args.code.now).by_check in
    sym (ap (toggled_all c.loop-u.remaining) c.in-None.ensures.steps.0)
    ∙ c.loop-u.invariant
    ∙ ap (toggled_all c.args.remaining.now) (cond-true _ (l.checks_of v) [] (lt-ltb v l.qubits c.requires.v_bound))
    ∙ toggled_all_is l.checks (l.checks_of v) c.args.remaining.now c.requires.fits (λ u on. paired.column_within v u c.requires.v_bound on) (paired.column_apart v c.requires.v_bound)
