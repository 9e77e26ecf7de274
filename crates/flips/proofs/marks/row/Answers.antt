use Rattle.std.proofs.Common.{ltb, eqb, [], ◌∷◌, get_or, drop, sym, ap, ◌∙◌, subst}
use Rattle.std.proofs.lemmas.Bool.{cond-true, lt-ltb, eqb-true}
use Rattle.std.proofs.lemmas.List.Quantifiers.{position-Some}
use Rattle.patterns.specs.Sets.{◌⊕◌, has, Apart}
use Rattle.matrices.specs.Relations.{neighbours}
use Rattle.flips.specs.Local.{Marks}
use Rattle.flips.proofs.Marked.{none_looked_at, next_marked, next_passed, no_place}
use Rattle.flips.proofs.marks.row.Goals as goal

pub loop-u-init : goal.loop-u-init
loop-u-init g c =
    let l = g.C.Code.layout c.args.code.now in
    let v = c.args.v.0 in
    let ds = c.args.checks.now in
    let row = l.checks_of v in
    let whole = ap (λ it. drop it.next (neighbours (g.C.Code.layout it.family.code.now).qubits (g.C.Code.layout it.family.code.now).checks_of it.node)) (c.into_iter-u-iterator.ensures.into_iter_gives ∙ c.of-u-items.ensures)
    ∙ cond-true (ltb v l.qubits) row [] (lt-ltb v l.qubits c.requires.v_bound) in
    record {
      apart = subst Apart (sym whole) ((g.met.C.Code.sound c.args.code.now).by_check.column_apart v c.requires.v_bound);
      marks = subst (λ us. Marks ds (λ w. has row w ⊕ has us w) (0 ∷ 0 ∷ 0 ∷ [])) (sym whole) (none_looked_at ds row);
    }

pub loop-u-preserved-in-Some-place : goal.loop-u-preserved-in-Some-place
loop-u-preserved-in-Some-place g c =
    let e = c.in-Some.ensures.steps in
    let row = (g.C.Code.layout c.args.code.now).checks_of c.args.v.0 in
    let ds = c.args.checks.now in
    let u = c.in-Some.u in
    let here = position-Some (λ x. eqb x u) ds c.in-Some-place.j 0 (sym c.in-Some-place.ensures) in
    let apart = subst Apart e c.loop-u.invariant.apart in
    record {
      apart = apart.1;
      marks = subst (Marks ds (λ w. has row w ⊕ has _ w)) (sym c.mark.ensures) (next_marked ds row _ c.loop-u.words c.in-Some-place.j u c.requires.apart c.requires.checks_len_bound apart here.0 (eqb-true (get_or ds c.in-Some-place.j 0) u here.1) (subst (λ us. Marks ds (λ w. has row w ⊕ has us w) c.loop-u.words) e c.loop-u.invariant.marks));
    }

pub loop-u-preserved : goal.loop-u-preserved
loop-u-preserved g c =
    let e = c.in-Some.ensures.steps in
    let row = (g.C.Code.layout c.args.code.now).checks_of c.args.v.0 in
    let ds = c.args.checks.now in
    let apart = subst Apart e c.loop-u.invariant.apart in
    record {
      apart = apart.1;
      marks = next_passed ds row _ c.loop-u.words c.in-Some.u apart (no_place ds c.in-Some.u (sym c.in_default.ensures)) (subst (λ us. Marks ds (λ w. has row w ⊕ has us w) c.loop-u.words) e c.loop-u.invariant.marks);
    }
