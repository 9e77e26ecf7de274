-- The theorem on two jobs from one opening. Assumes nothing.
use Rattle.std.proofs.Common.{◌≡◌, ℕ, Bool, true, false, ◌&&◌, List, Some, None, Ok, Option, sym, refl, ap, ◌∙◌, subst, ⊎_elim}
use Rattle.std.proofs.lemmas.Bool.{cases_Bool, both_ways, and_parts}
use Rattle.refusals.specs.declared.Refusal.{Refusal}
use Rattle.refusals.specs.Questions.{first_no}
use Rattle.refusals.proofs.Asking.{yes_from_none}
use Rattle.verdicts.specs.declared.Verdict.TheVariants.{Contradicted, Settled}
use Rattle.patterns.specs.Sets.{Set, ◌⊕◌, Inside, parity}
use Rattle.patterns.specs.Patterns.{member, fitting, tidy, Well}
use Rattle.patterns.proofs.Sums.{plus_zero, plus_comm}
use Rattle.patterns.proofs.Lists.{parity_none}
use Rattle.patterns.proofs.Packed.{member_below}
use Rattle.codes.specs.Layouts.{Layout, Sound}
use Rattle.moves.specs.Jobs.{Model, refused_or, opening, opening_questions, open_of}
use Rattle.jobs.specs.Verdicts.{verdict}
use Rattle.jobs.specs.Calls.{Call, after, answers}
use Rattle.jobs.specs.Theorem.{Explains, Unexplained, OpenAreStopping, DifferByGenerators, NoneDangles, prunes_told, Agree, TwoJobs}
use Rattle.jobs.proofs.Keeping.{after_keeps}
use Rattle.jobs.proofs.Books.{InBooks, books_opening, books_keeps}
use Rattle.jobs.proofs.Lives.{Alive, alive_opening, Known, known_keeps}
use Rattle.jobs.proofs.Stops.{Stops, Stopped, stopped_keeps}
use Rattle.jobs.proofs.Verdicts.{settled_open, settled_remaining, contradicted_at}

-- what is outside a set is not inside another in it
none_inside : (s t : Set) → Inside s t → (v : ℕ) → t v ≡ false → s v ≡ false
none_inside s t inside v off = ⊎_elim (λ on. absurd (both_ways (t v) off (inside v on))) (λ k. k) (cases_Bool (s v))

-- the two of a sum that is nothing
same_sum : (a b : Bool) → false ≡ (a ⊕ b) → b ≡ a
same_sum true true e = refl
same_sum true false e = absurd (both_ways false refl e)
same_sum false true e = absurd (both_ways false refl e)
same_sum false false e = refl

-- ---- one job

module _ (c : Layout) (sound : Sound c) (syndrome erasure : List ℕ) (ws : Well c.checks syndrome) (we : Well c.qubits erasure) where
  abbrev first : Model
  first = opening c syndrome erasure

  module _ (ks : List Call) where
    abbrev last : Model
    last = after c first ks

    opened_books : InBooks c (member syndrome) (member erasure) first
    opened_books = books_opening c sound syndrome erasure ws we

    booked : InBooks c (member syndrome) (member erasure) last
    booked = after_keeps c (InBooks c (member syndrome) (member erasure)) (λ _. Unit {0}) (books_keeps c sound (member syndrome) (member erasure)) ks first opened_books tt

    alive : (e : Set) → Explains c (member syndrome) (member erasure) e → Alive c (member erasure) e last
    alive e explains =
        (after_keeps c (Known c sound (member syndrome) (member erasure) e) (λ _. Unit {0}) (known_keeps c sound (member syndrome) (member erasure) e) ks first
        (opened_books, alive_opening c syndrome erasure e explains) tt).1

    stopping_open : prunes_told (answers c first ks) ≡ 0 → Stops c (member erasure) last
    stopping_open none = (after_keeps c (Stopped c sound (member syndrome) (member erasure)) (λ n. n ≡ 0) (stopped_keeps c sound (member syndrome) (member erasure)) ks first (opened_books, λ s _ inside. inside) none).1

    -- nothing is open in a settled job, past its qubits either
    shut : verdict c last ≡ Settled → (v : ℕ) → member last.opened v ≡ false
    shut e v =
        ⊎_elim
        (λ on. settled_open c last e v (member_below c.qubits last.opened booked.well_opened v on))
        (λ off. off)
        (cases_Bool (member last.opened v))

    -- the correction of a settled job explains the opening
    settled_explains : verdict c last ≡ Settled → Explains c (member syndrome) (member erasure) (member last.correction)
    settled_explains e = (
      booked.correction_inside,
      λ u h. same_sum (member syndrome u) (parity (member last.correction) (c.of_check u)) (sym (settled_remaining c last e (shut e) u h) ∙ booked.balance u h),
    )

    -- nothing explains the opening of a contradicted job
    unexplained : verdict c last ≡ Contradicted → Unexplained c (member syndrome) (member erasure)
    unexplained bad e explains =
        let at = contradicted_at c last bad in
        let l = alive e explains in
        both_ways (member last.remaining at.0)
        (sym (l.syndrome at.0 at.1) ∙ parity_none l.rest (c.of_check at.0) (λ v held. none_inside l.rest (member last.opened) l.inside v (at.3 v held)))
        at.2

    open_are_stopping : prunes_told (answers c first ks) ≡ 0 → NoneDangles c last → OpenAreStopping c (member erasure) last
    open_are_stopping none still v h =
        (λ on. (member last.opened, still, booked.opened_inside, on), λ s. stopping_open none s.0 s.1 s.2 v s.3)

  -- ---- two jobs

  differ : (ls rs : List Call) → verdict c (last ls) ≡ Settled → verdict c (last rs) ≡ Settled → DifferByGenerators c (member erasure) (member (last ls).correction) (member (last rs).correction)
  differ ls rs el er =
      let other : Set = member (last rs).correction in
      let l = alive ls other (settled_explains rs er) in (
        l.generators,
        l.good,
        λ v h.
            sym (l.sums v h)
            ∙ ap (λ b. (other v ⊕ b) ⊕ member (last ls).correction v) (none_inside l.rest (member (last ls).opened) l.inside v (shut ls el v))
            ∙ ap (λ b. b ⊕ member (last ls).correction v) (plus_zero (other v))
            ∙ plus_comm (other v) (member (last ls).correction v),
      )

  agree : (ls rs : List Call) → Agree c (member syndrome) (member erasure) (answers c first ls) (answers c first rs) (last ls) (last rs)
  agree ls rs = record {
    settled_differ_by_generators = differ ls rs;
    open_are_stopping_sets = λ nl nr dl dr. (open_are_stopping ls nl dl, open_are_stopping rs nr dr);
    contradiction_is_final = λ bad.
        let none : Unexplained c (member syndrome) (member erasure) = ⊎_elim (unexplained ls) (unexplained rs) bad in
        (none, (λ e. none (member (last ls).correction) (settled_explains ls e)), λ e. none (member (last rs).correction) (settled_explains rs e));
  }

-- ---- openings

-- an opening that is accepted was asked no question that is answered no
accepted_opening : (c : Layout) (m : Model) (syndrome erasure : List ℕ) → (open_of c m syndrome erasure).0 ≡ Ok tt → first_no (opening_questions c m syndrome erasure) ≡ None
accepted_opening c m syndrome erasure e = part (first_no (opening_questions c m syndrome erasure)) e
  where
    part : (o : Option Refusal) → (refused_or {X = Unit {0}} o m (Ok tt, opening c syndrome erasure)).0 ≡ Ok tt → o ≡ None
    part None e = refl
    part (Some r) e = absurd (cc)

module _ (c : Layout) (m : Model) (syndrome erasure : List ℕ) (accepted : (open_of c m syndrome erasure).0 ≡ Ok tt) where
  asked : first_no (opening_questions c m syndrome erasure) ≡ None
  asked = accepted_opening c m syndrome erasure accepted

  opened_as : (open_of c m syndrome erasure).1 ≡ opening c syndrome erasure
  opened_as = ap (λ o. (refused_or {X = Unit {0}} o m (Ok tt, opening c syndrome erasure)).1) asked

  -- what an opening is handed is well formed
  well_handed : Well c.checks syndrome × Well c.qubits erasure
  well_handed =
      let yes = yes_from_none (opening_questions c m syndrome erasure) asked in
      let long = and_parts (fitting c.checks syndrome) (fitting c.qubits erasure) (and_parts (fitting c.checks syndrome && fitting c.qubits erasure) (fitting c.checks m.remaining && (fitting c.qubits m.opened && fitting c.qubits m.correction)) yes.0).0 in
      let clean = and_parts (tidy c.checks syndrome) (tidy c.qubits erasure) yes.1.0 in
      (record { long = long.0; clean = clean.0 }, record { long = long.1; clean = clean.1 })

pub two_jobs : (c : Layout) → Sound c → TwoJobs c
two_jobs c sound l r syndrome erasure hl hr ls rs =
    let handed = well_handed c l syndrome erasure hl in
    let first : Model = opening c syndrome erasure in
    let P : Model → Model → Type 0 = λ x y. Agree c (member syndrome) (member erasure) (answers c x ls) (answers c y rs) (after c x ls) (after c y rs) in
    subst (λ x. P x (open_of c r syndrome erasure).1) (sym (opened_as c l syndrome erasure hl))
    (subst (P first) (sym (opened_as c r syndrome erasure hr)) (agree c sound syndrome erasure handed.0 handed.1 ls rs))
