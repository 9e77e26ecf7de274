-- The first invariant: what remains is what was handed in and what was done. Assumes nothing.
use Rattle.std.proofs.Common.{◌≡◌, ℕ, ◌<◌, Bool, true, false, cond, not, ◌&&◌, eqb, List, [], ◌∷◌, sym, refl, ap, ◌∙◌}
use Rattle.std.proofs.lemmas.Bool.{and_parts, both_ways, cond_both}
use Rattle.patterns.specs.Sets.{Set, ◌⊕◌, Inside, has, parity}
use Rattle.patterns.specs.Patterns.{member, pattern, added, Well}
use Rattle.patterns.proofs.Sums.{plus_zero, plus_assoc}
use Rattle.patterns.proofs.Lists.{parity_add, parity_same, parity_none}
use Rattle.patterns.proofs.Packed.{member_pattern, pattern_well, member_below}
use Rattle.patterns.proofs.Added.{member_added, well_added, member_added_in}
use Rattle.codes.specs.Layouts.{Layout, Sound}
use Rattle.scans.specs.Scans.{meeting}
use Rattle.moves.specs.Jobs.{Model, opening, changed, closed}
use Rattle.moves.specs.Moves.{peel_at}
use Rattle.jobs.proofs.Counts.{taken_out}
use Rattle.jobs.proofs.Picks.{one_inside}
use Rattle.jobs.proofs.Keeping.{Keeps}

-- a sum is set only where one of the two is
pub one_of : (P : Type 0) (a b : Bool) → (a ≡ true → P) → (b ≡ true → P) → (a ⊕ b) ≡ true → P
one_of P true b h k e = h refl
one_of P false b h k e = k e

-- the patterns are well formed, what remains is the sum of the opening's syndrome and that of the correction, and nothing lies outside the erasure
pub record Books (c : Layout) (syndrome erasure : Set) (remaining opened correction : List ℕ) : Type 0 where
  pub well_remaining : Well c.checks remaining
  pub well_opened : Well c.qubits opened
  pub well_correction : Well c.qubits correction
  pub balance : (u : ℕ) → u < c.checks → member remaining u ≡ (syndrome u ⊕ parity (member correction) (c.of_check u))
  pub opened_inside : Inside (member opened) erasure
  pub correction_inside : Inside (member correction) erasure

-- the books of a job
abbrev pub InBooks : Layout → Set → Set → Model → Type 0
InBooks c syndrome erasure m = Books c syndrome erasure m.remaining m.opened m.correction

module _ (c : Layout) (sound : Sound c) where
  -- over a check, a pattern of qubits is its set
  parity_pattern : (s : Set) (u : ℕ) → u < c.checks → parity (member (pattern c.qubits s)) (c.of_check u) ≡ parity s (c.of_check u)
  parity_pattern s u h =
      parity_same (member (pattern c.qubits s)) s (c.of_check u) (λ v k. member_pattern c.qubits s v (sound.by_check.row_within u v h k))

  parity_added : (p : List ℕ) (s : Set) → Well c.qubits p → (u : ℕ) → u < c.checks → parity (member (added c.qubits p s)) (c.of_check u) ≡ (parity (member p) (c.of_check u) ⊕ parity s (c.of_check u))
  parity_added p s w u h =
      parity_same (member (added c.qubits p s)) (λ v. member p v ⊕ s v) (c.of_check u) (λ v k. member_added c.qubits p s w v (sound.by_check.row_within u v h k))
      ∙ parity_add (member p) s (c.of_check u)

  -- ---- the opening

  none_in_empty : (v : ℕ) → member (pattern c.qubits (λ _. false)) v ≡ true → ⊥
  none_in_empty v h =
      let below = member_below c.qubits (pattern c.qubits (λ _. false)) (pattern_well c.qubits (λ _. false)) v h in
      both_ways (member (pattern c.qubits (λ _. false)) v) (member_pattern c.qubits (λ _. false) v below) h

  pub books_opening : (syndrome erasure : List ℕ) → Well c.checks syndrome → Well c.qubits erasure → InBooks c (member syndrome) (member erasure) (opening c syndrome erasure)
  books_opening syndrome erasure ws we = record {
    well_remaining = ws;
    well_opened = we;
    well_correction = pattern_well c.qubits (λ _. false);
    balance = λ u h. sym (ap (λ b. member syndrome u ⊕ b) (parity_pattern (λ _. false) u h ∙ parity_none (λ _. false) (c.of_check u) (λ _ _. refl)) ∙ plus_zero (member syndrome u));
    opened_inside = λ v h. h;
    correction_inside = λ v h. absurd (none_in_empty v h);
  }

  -- ---- moves

  module _ (syndrome erasure : Set) where
    abbrev Kept : Model → Type 0
    Kept = InBooks c syndrome erasure

    pub books_changed : (m : Model) (f : List ℕ) → Kept m → Inside (has f) (member m.opened) → Kept (changed c m f)
    books_changed m f b inside = record {
      well_remaining = well_added c.checks m.remaining (λ u. parity (has f) (c.of_check u)) b.well_remaining;
      well_opened = b.well_opened;
      well_correction = well_added c.qubits m.correction (has f) b.well_correction;
      balance = λ u h.
          member_added c.checks m.remaining (λ u. parity (has f) (c.of_check u)) b.well_remaining u h
          ∙ ap (λ x. x ⊕ parity (has f) (c.of_check u)) (b.balance u h)
          ∙ plus_assoc (syndrome u) (parity (member m.correction) (c.of_check u)) (parity (has f) (c.of_check u))
          ∙ ap (λ x. syndrome u ⊕ x) (sym (parity_added m.correction (has f) b.well_correction u h));
      opened_inside = b.opened_inside;
      correction_inside = λ v h.
          one_of (erasure v ≡ true) (member m.correction v) (has f v) (b.correction_inside v) (λ k. b.opened_inside v (inside v k)) (member_added_in c.qubits m.correction (has f) b.well_correction v h);
    }

    pub books_closed : (m : Model) (v : ℕ) → Kept m → Kept (closed c m v)
    books_closed m v b = record {
      well_remaining = b.well_remaining;
      well_opened = well_added c.qubits m.opened (λ w. eqb v w && member m.opened w) b.well_opened;
      well_correction = b.well_correction;
      balance = b.balance;
      opened_inside = λ w h.
          b.opened_inside w (and_parts (member m.opened w) (not (eqb v w)) (sym (taken_out (member m.opened w) (eqb v w)) ∙ member_added_in c.qubits m.opened (λ x. eqb v x && member m.opened x) b.well_opened w h)).0;
      correction_inside = b.correction_inside;
    }

    pub books_peel : (m : Model) (u v : ℕ) → Kept m → meeting c (member m.opened) u ≡ v ∷ [] → Kept (peel_at c m u v)
    books_peel m u v b only =
        books_closed (cond (member m.remaining u) (changed c m (v ∷ [])) m) v
        (cond_both (member m.remaining u) (changed c m (v ∷ [])) m Kept (λ _. books_changed m (v ∷ []) b (one_inside c (member m.opened) u v only)) (λ _. b))

    pub books_keeps : Keeps c Kept (λ _. Unit {0})
    books_keeps = record {
      none = tt;
      parted = λ a b _. (tt, tt);
      by_peel = λ m u v b h only. books_peel m u v b only;
      by_prune = λ _ m g v b h held wide. books_closed m v b;
      by_flip = λ m f b inside. books_changed m f b inside;
    }
