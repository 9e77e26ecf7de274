-- Calls that are refused, and calls that are not. Assumes nothing.
use Rattle.std.proofs.Common.{◌≡◌, ℕ, true, ◌&&◌, List, length, Some, None, Err, Option, sym, ap, ◌∙◌}
use Rattle.std.proofs.lemmas.Bool.{and_parts, eqb-true}
use Rattle.refusals.specs.declared.Refusal.{Refusal}
use Rattle.refusals.specs.Questions.{first_no}
use Rattle.refusals.proofs.Asking.{yes_from_none}
use Rattle.patterns.specs.Patterns.{width, fitting, tidy}
use Rattle.codes.specs.Layouts.{Layout}
use Rattle.moves.specs.Jobs.{Model, Outcome, refused_or, pattern_questions, opening_questions}

pub refused_at : {X : Type 0} (asked : Option Refusal) (m : Model) (r : Outcome X) (e : Refusal) → asked ≡ Some e → ◌≡◌ {A = Outcome X} (Err e, m) (refused_or asked m r)
refused_at asked m r e h = sym (ap (λ a. refused_or a m r) h)

pub accepted_at : {X : Type 0} (asked : Option Refusal) (m : Model) (r : Outcome X) → asked ≡ None → r ≡ refused_or asked m r
accepted_at asked m r h = sym (ap (λ a. refused_or a m r) h)

-- a job is what its parts are
pub model_same : {r r' o o' k k' : List ℕ} {n n' : ℕ} → r ≡ r' → o ≡ o' → k ≡ k' → n ≡ n'
    → ◌≡◌ {A = Model} (record { remaining = r; opened = o; correction = k; moves = n }) (record { remaining = r'; opened = o'; correction = k'; moves = n' })
model_same a b d e = λ i. record { remaining = a i; opened = b i; correction = d i; moves = e i }

-- the lengths of a job's patterns
pub record Lengths (c : Layout) (m : Model) : Type 0 where
  pub remaining : fitting c.checks m.remaining ≡ true
  pub opened : fitting c.qubits m.opened ≡ true
  pub correction : fitting c.qubits m.correction ≡ true

lengths_from : (c : Layout) (m : Model) → (fitting c.checks m.remaining && (fitting c.qubits m.opened && fitting c.qubits m.correction)) ≡ true → Lengths c m
lengths_from c m h =
    let first = and_parts (fitting c.checks m.remaining) (fitting c.qubits m.opened && fitting c.qubits m.correction) h in
    let rest = and_parts (fitting c.qubits m.opened) (fitting c.qubits m.correction) first.1 in
    record { remaining = first.0; opened = rest.0; correction = rest.1 }

pub lengths_asked : (c : Layout) (m : Model) → first_no (pattern_questions c m) ≡ None → Lengths c m
lengths_asked c m h = lengths_from c m (yes_from_none (pattern_questions c m) h).0

-- the unused bits of the remaining syndrome are zero
pub clean_asked : (c : Layout) (m : Model) → first_no (pattern_questions c m) ≡ None → tidy c.checks m.remaining ≡ true
clean_asked c m h = (and_parts (tidy c.checks m.remaining) (tidy c.qubits m.opened && tidy c.qubits m.correction) (yes_from_none (pattern_questions c m) h).1.0).0

-- the lengths of what a job is opened with, and of its own patterns
module _ (c : Layout) (m : Model) (syndrome erasure : List ℕ) (h : first_no (opening_questions c m syndrome erasure) ≡ None) where
  both : ((fitting c.checks syndrome && fitting c.qubits erasure) ≡ true) × ((fitting c.checks m.remaining && (fitting c.qubits m.opened && fitting c.qubits m.correction)) ≡ true)
  both = and_parts (fitting c.checks syndrome && fitting c.qubits erasure) (fitting c.checks m.remaining && (fitting c.qubits m.opened && fitting c.qubits m.correction)) (yes_from_none (opening_questions c m syndrome erasure) h).0

  given : (fitting c.checks syndrome ≡ true) × (fitting c.qubits erasure ≡ true)
  given = and_parts (fitting c.checks syndrome) (fitting c.qubits erasure) both.0

  same_length : (n : ℕ) (p q : List ℕ) → fitting n p ≡ true → fitting n q ≡ true → length p ≡ length q
  same_length n p q hp hq = eqb-true (length p) (width n) hp ∙ sym (eqb-true (length q) (width n) hq)

  pub remaining_fits : length m.remaining ≡ length syndrome
  remaining_fits = same_length c.checks m.remaining syndrome (lengths_from c m both.1).remaining given.0

  pub opened_fits : length m.opened ≡ length erasure
  opened_fits = same_length c.qubits m.opened erasure (lengths_from c m both.1).opened given.1

  pub correction_width : length m.correction ≡ width c.qubits
  correction_width = eqb-true (length m.correction) (width c.qubits) (lengths_from c m both.1).correction
