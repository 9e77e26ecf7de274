use Rattle.std.proofs.Common.{◌≡◌, true, length, replicate, None, sym, ap, ◌∙◌, arith}
use Rattle.std.proofs.lemmas.Bool.{and_from, eqb-true}
use Rattle.refusals.specs.Questions.{first_no, answer, where_accepted}
use Rattle.refusals.proofs.Asking.{none_from_yes}
use Rattle.patterns.specs.Patterns.{width, member, fitting, tidy}
use Rattle.patterns.proofs.Filled.{filled_none, filled_more, filled_skip, filled_all}
use Rattle.syndromes.specs.Syndromes.{syndrome_of, syndrome_questions, syndrome_pattern}
use Rattle.syndromes.proofs.Scanning.{odd_syndrome}
use Rattle.syndromes.proofs.syndrome.Goals as goal
use Rattle.syndromes.proofs.syndrome.Goals.{then-is_odd, else-is_odd}

pub loop-u-init : goal.loop-u-init
loop-u-init g c =
    let l = g.C.Code.layout c.args.code.now in
    let out = c.args.out.now in
    let fits : fitting l.checks out ≡ true = ap (λ q. fitting q out) (sym c.checks.ensures) ∙ sym c.if-not-fits-2.ensures.value in
    let long : length out ≡ width l.checks = eqb-true (length out) (width l.checks) fits in
    c.fill.ensures.after (λ y e. e) ∙ ap (λ n. replicate n 0) long ∙ filled_none l.checks (syndrome_of l (member c.args.set.now))

pub loop-u-preserved : goal.loop-u-preserved
loop-u-preserved g c =
    let l = g.C.Code.layout c.args.code.now in
    let s = syndrome_of l (member c.args.set.now) in
    let u = c.loop-u.u in
    elim c.if-is_odd.branch [
      | then-is_odd w ↦ w.out-is ∙ w.toggle.ensures.after ∙ filled_more l.checks u s c.loop-u.out (omega arith) (sym (odd_syndrome l (member c.args.set.now) u (omega arith)) ∙ sym c.is_odd.ensures ∙ w.if-is_odd.true) c.loop-u.invariant
      | else-is_odd w ↦ w.out-is ∙ filled_skip l.checks u s c.loop-u.out (sym (odd_syndrome l (member c.args.set.now) u (omega arith)) ∙ sym c.is_odd.ensures ∙ w.if-is_odd.false) c.loop-u.invariant
    ]

pub returns : goal.returns
returns g c =
    let l = g.C.Code.layout c.args.code.now in
    let set = c.args.set.now in
    let out = c.args.out.now in
    let s = syndrome_of l (member set) in
    let lengths = and_from (fitting l.qubits set) (fitting l.checks out)
    (ap (λ q. fitting q set) (sym c.qubits.ensures) ∙ sym c.if-not-fits.ensures.value)
    (ap (λ q. fitting q out) (sym c.checks.ensures) ∙ sym c.if-not-fits-2.ensures.value) in
    let bits = ap (λ q. tidy q set) (sym c.qubits-2.ensures) ∙ sym c.if-not-unused_are_zero.ensures in
    let accepted : first_no (syndrome_questions l set out) ≡ None = none_from_yes (syndrome_questions l set out) (lengths, (bits, tt)) in
    let last : c.loop-u.u ≡ l.checks = omega arith in
    record {
      value = sym (ap answer accepted);
      after = filled_all l.checks c.loop-u.u s c.loop-u.out last c.loop-u.invariant ∙ sym (ap (λ r. where_accepted r (syndrome_pattern l set) out) accepted);
    }
