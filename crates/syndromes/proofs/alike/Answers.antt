use Rattle.std.proofs.Common.{rules, tests, ◌≡◌, not, None, Ok, sym, ap, ◌∙◌, ap₂}
use mathlib.Core.Bool.{beq}
use Rattle.std.proofs.lemmas.Bool.{and_from}
use Rattle.std.proofs.lemmas.Iterator.Search.{all_from_yields_List}
use Rattle.refusals.specs.Questions.{first_no}
use Rattle.refusals.proofs.Asking.{none_from_yes}
use Rattle.patterns.specs.Sets.{◌⊕◌, parity}
use Rattle.patterns.specs.Patterns.{member, fitting, tidy}
use Rattle.patterns.proofs.Ranges.{numbers_below, list_all_below}
use Rattle.matrices.specs.Relations.{neighbours}
use Rattle.syndromes.specs.Syndromes.{syndrome_of, alike_questions, alike_answer}
use Rattle.syndromes.proofs.Scanning.{odd_syndrome, same_not_plus, all_below_same}
use Rattle.syndromes.proofs.alike.Goals as goal

pub returns : goal.returns
returns g c =
    let l = g.C.Code.layout c.args.code.now in
    let one = c.args.one.now in
    let two = c.args.two.now in
    let odd = λ (set : _) (u : _). parity (member set) (neighbours l.checks l.of_check u) in
    let lengths = and_from (fitting l.qubits one) (fitting l.qubits two)
    (ap (λ q. fitting q one) (sym c.qubits.ensures) ∙ sym c.if-not-fits.ensures.value)
    (ap (λ q. fitting q two) (sym c.qubits-else-not-fits.ensures) ∙ sym c.if-not-fits-2.ensures.value) in
    let bits = and_from (tidy l.qubits one) (tidy l.qubits two)
    (ap (λ q. tidy q one) (sym c.qubits-2.ensures) ∙ sym c.if-not-unused_are_zero.ensures)
    (ap (λ q. tidy q two) (sym c.qubits-else-not-unused_are_zero.ensures) ∙ sym c.if-not-unused_are_zero-2.ensures) in
    let accepted : first_no (alike_questions l one two) ≡ None = none_from_yes (alike_questions l one two) (lengths, (bits, tt)) in
    ap Ok
    (all_from_yields_List (λ u. beq (odd one u) (odd two u)) c.all.new.self _ c.all.result c.all.ensures.ran (numbers_below l.checks (cc)) (λ x b q k. search (rules, tests))
    ∙ list_all_below l.checks (λ u. beq (odd one u) (odd two u))
    ∙ all_below_same l.checks (λ u. beq (odd one u) (odd two u)) (λ u. not (syndrome_of l (member one) u ⊕ syndrome_of l (member two) u))
    (λ u h. same_not_plus (odd one u) (odd two u) ∙ ap not (ap₂ ◌⊕◌ (odd_syndrome l (member one) u h) (odd_syndrome l (member two) u h))))
    ∙ sym (ap (alike_answer l one two) accepted)
