use Rattle.std.proofs.Common.{◌+◌, eqb, get_or, drop, sym, ap, ◌∙◌}
use Rattle.std.proofs.lemmas.List.{at_drop_more, drop_all}
use Rattle.patterns.specs.Sets.{has, parity}
use Rattle.patterns.specs.Patterns.{width, added}
use Rattle.patterns.proofs.Added.{added_same, added_added, added_none}
use Rattle.flips.proofs.Near.{toggles, syndrome_by_qubits}
use Rattle.moves.proofs.changes.toggle_syndrome.Goals as goal

pub toggle_checks-requires : goal.toggle_checks-requires
toggle_checks-requires g c =
    let l = g.C.Code.layout c.args.code.now in
    record { v_bound = c.requires.in_range c.loop-v.v-index 0 c.loop-v-test.true; fits = ap (λ n. eqb n (width l.checks)) c.loop-v.invariant.0 ∙ c.requires.fits }

pub loop-v-preserved : goal.loop-v-preserved
loop-v-preserved g c =
    let l = g.C.Code.layout c.args.code.now in
    let xs = c.args.qubits.now in
    let i = c.loop-v.v-index in
    let rest = toggles l (drop (i + 1) xs) in
    let now = c.loop-v.remaining in (
      c.toggle_checks.auto.remaining ∙ c.loop-v.invariant.0,
      ap (λ p. added l.checks p rest) c.toggle_checks.ensures
          ∙ added_added l.checks now (has (l.checks_of (get_or xs i 0))) rest
          ∙ sym (at_drop_more (λ s. added l.checks now (toggles l s)) xs i 0 c.loop-v-test.true)
          ∙ c.loop-v.invariant.1,
    )

pub returns : goal.returns
returns g c =
    let l = g.C.Code.layout c.args.code.now in
    let xs = c.args.qubits.now in
    let i = c.loop-v.v-index in
    added_none l.checks c.loop-v.remaining (toggles l (drop i xs)) (λ u. ap (λ s. toggles l s u) (drop_all i xs c.loop-v-test.false))
    ∙ c.loop-v.invariant.1
    ∙ added_same l.checks c.args.remaining.now (toggles l xs) (λ u. parity (has xs) (l.of_check u)) (λ u h. sym (syndrome_by_qubits l (g.met.C.Code.sound c.args.code.now) xs c.requires.apart c.requires.in_range u h))
