-- From what the body of a peel does to what a peel is. Assumes nothing.
use Rattle.std.proofs.Common.{◌≡◌, ℕ, ◌+◌, ◌<◌, min, Bool, true, false, cond, ◌&&◌, ◌||◌, eqb, ltb, List, [], ◌∷◌, Some, None, Ok, filter, sym, refl, ap, ◌∙◌, ⊎_elim, arith}
use mathlib.Core.Bool.{or-false}
use mir.Val.{bool_byte}
use Rattle.std.proofs.lemmas.Bool.{cases_Bool, eqb-true, eq-eqb, lt-ltb, and_parts, cond-true, cond-false}
use Rattle.refusals.specs.declared.Refusal.TheVariants.{NumberOutOfRange}
use Rattle.refusals.specs.Questions.{first_no}
use Rattle.refusals.proofs.Asking.{none_from_yes, first_no_rest}
use Rattle.patterns.specs.Sets.{Set, has, parity}
use Rattle.patterns.specs.Patterns.{member, toggled, added}
use Rattle.patterns.proofs.Lists.{parity_same, parity_one}
use Rattle.patterns.proofs.Added.{added_same}
use Rattle.patterns.proofs.Toggled.{toggled_is}
use Rattle.codes.specs.Layouts.{Layout, Sound}
use Rattle.moves.specs.Jobs.{Model, Outcome, refused_or, pattern_questions, counted, changed, closed, most_moves}
use Rattle.moves.proofs.Asked.{Lengths, model_same}
use Rattle.moves.proofs.Closing.{closed_is}
use Rattle.scans.specs.Scans.{single, meeting}
use Rattle.moves.specs.Moves.{peel_questions, peel_at, peel_by, peel_of}

-- ---- lists that are filtered

pub has_kept : (s : Set) (xs : List ℕ) (k : ℕ) → has (filter s xs) k ≡ (has xs k && s k)
has_kept s [] k = refl
has_kept s (x ∷ xs) k =
    ⊎_elim
    (λ on. ap (λ l. has l k) (cond-true (s x) (x ∷ filter s xs) (filter s xs) on) ∙ ap (λ b. eqb x k || b) (has_kept s xs k) ∙ in_it (eqb x k) (has xs k) (λ e. ap s (sym (eqb-true x k e)) ∙ on))
    (λ off. ap (λ l. has l k) (cond-false (s x) (x ∷ filter s xs) (filter s xs) off) ∙ has_kept s xs k ∙ out_of_it (eqb x k) (has xs k) (λ e. ap s (sym (eqb-true x k e)) ∙ off))
    (cases_Bool (s x))
  where
    in_it : (e h : Bool) → (e ≡ true → s k ≡ true) → (e || (h && s k)) ≡ ((e || h) && s k)
    in_it true h on = sym (on refl)
    in_it false h on = refl

    out_of_it : (e h : Bool) → (e ≡ true → s k ≡ false) → (h && s k) ≡ ((e || h) && s k)
    out_of_it true true off = refl
    out_of_it true false off = sym (off refl)
    out_of_it false h off = refl

pub single_is : (xs : List ℕ) (v : ℕ) → Some v ≡ single xs → xs ≡ v ∷ []
single_is [] v e = let z : ◌≡◌ {A = ℕ} 0 1 = cc in absurd (omega arith)
single_is (x ∷ []) v e = let same : x ≡ v = cc in ap (λ y. y ∷ []) same
single_is (x ∷ y ∷ ys) v e = let z : ◌≡◌ {A = ℕ} 0 1 = cc in absurd (omega arith)

-- a yes or no as a byte
pub bit_byte : (b : Bool) → bool_byte b ≡ cond b 1 0
bit_byte true = refl
bit_byte false = refl

-- ---- a peel

-- the job after the qubit and its checks changed one by one, if they did
abbrev pub half_way : Layout → Model → ℕ → Bool → Model
half_way c m v b = record {
  remaining = cond b (added c.checks m.remaining (has (c.checks_of v))) m.remaining;
  opened = m.opened;
  correction = cond b (toggled m.correction v) m.correction;
  moves = m.moves;
}

module _ (c : Layout) (sound : Sound c) (m : Model) (u v : ℕ) (within : u < c.checks) (only : Some v ≡ single (meeting c (member m.opened) u)) where
  at_v : (has (c.of_check u) v ≡ true) × (member m.opened v ≡ true)
  at_v = and_parts (has (c.of_check u) v) (member m.opened v)
      (sym (has_kept (member m.opened) (c.of_check u) v) ∙ ap (λ l. has l v) (single_is (meeting c (member m.opened) u) v only) ∙ or-false (eqb v v) ∙ eq-eqb v v refl)

  pub peeled_below : v < c.qubits
  peeled_below = sound.by_check.row_within u v within at_v.0

  -- the checks of v are the syndrome of v alone
  remaining_is : added c.checks m.remaining (has (c.checks_of v)) ≡ added c.checks m.remaining (λ x. parity (has (v ∷ [])) (c.of_check x))
  remaining_is = added_same c.checks m.remaining (has (c.checks_of v)) (λ x. parity (has (v ∷ [])) (c.of_check x))
      (λ x h. sym (parity_same (has (v ∷ [])) (eqb v) (c.of_check x) (λ w _. or-false (eqb v w)) ∙ parity_one v (c.of_check x) (sound.by_check.row_apart x h) ∙ sound.by_check.same x v h peeled_below))

  correction_is : added c.qubits m.correction (eqb v) ≡ added c.qubits m.correction (has (v ∷ []))
  correction_is = added_same c.qubits m.correction (eqb v) (has (v ∷ [])) (λ w _. sym (or-false (eqb v w)))

  peel_parts : (b : Bool) → b ≡ member m.remaining u
      → record {
        remaining = cond b (added c.checks m.remaining (has (c.checks_of v))) m.remaining;
        opened = added c.qubits m.opened (λ w. eqb v w && member m.opened w);
        correction = cond b (added c.qubits m.correction (eqb v)) m.correction;
        moves = min (m.moves + 1) most_moves;
      }
      ≡ peel_at c m u v
  peel_parts b on = part b ∙ ap (λ t. counted (closed c (cond t (changed c m (v ∷ [])) m) v)) on
    where
      part : (b : Bool)
          → record {
            remaining = cond b (added c.checks m.remaining (has (c.checks_of v))) m.remaining;
            opened = added c.qubits m.opened (λ w. eqb v w && member m.opened w);
            correction = cond b (added c.qubits m.correction (eqb v)) m.correction;
            moves = min (m.moves + 1) most_moves;
          }
          ≡ counted (closed c (cond b (changed c m (v ∷ [])) m) v)
      part true = model_same remaining_is refl correction_is refl
      part false = refl

  pub peel_made : Lengths c m → (b : Bool) → b ≡ member m.remaining u → (j : Model) → j ≡ half_way c m v b
      → (o : List ℕ) → o ≡ toggled j.opened v → (n : ℕ) → n ≡ min (j.moves + 1) most_moves
      → record { remaining = j.remaining; opened = o; correction = j.correction; moves = n } ≡ peel_at c m u v
  peel_made long b on j was o eo n en =
      model_same
      (ap (λ x. x.remaining) was)
      (eo ∙ ap (λ x. toggled x.opened v) was ∙ closed_is c m v long.opened peeled_below at_v.1)
      (ap (λ x. x.correction) was ∙ ap (λ x. cond b x m.correction) (toggled_is c.qubits m.correction v long.correction peeled_below))
      (en ∙ ap (λ x. min (x.moves + 1) most_moves) was)
      ∙ peel_parts b on

  pub peel_accepted : first_no (pattern_questions c m) ≡ None → ◌≡◌ {A = Outcome (ℕ × ℕ)} (Ok (v, cond (member m.remaining u) 1 0), peel_at c m u v) (peel_of c m u)
  peel_accepted asked =
      let all : first_no (peel_questions c m u) ≡ None = first_no_rest (pattern_questions c m) ((ltb u c.checks, NumberOutOfRange) ∷ []) asked ∙ none_from_yes ((ltb u c.checks, NumberOutOfRange) ∷ []) (lt-ltb u c.checks within, tt) in
      ap (peel_by c m u) only ∙ sym (ap (λ a. refused_or a m (peel_by c m u (single (meeting c (member m.opened) u)))) all)
