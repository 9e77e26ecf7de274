-- The third invariant: without a prune, stopping sets stay open. Assumes nothing.
use Rattle.std.proofs.Common.{◌≡◌, ℕ, ◌<◌, Bool, true, false, cond, not, ◌&&◌, eqb, [], ◌∷◌, is_some, filter, sym, refl, ap, ◌∙◌, ⊎_elim, arith}
use Rattle.std.proofs.lemmas.Bool.{cases_Bool, eqb-true, both_ways, and_from}
use Rattle.patterns.specs.Sets.{Set, Inside}
use Rattle.patterns.specs.Patterns.{member, added}
use Rattle.patterns.proofs.Packed.{member_below}
use Rattle.codes.specs.Layouts.{Layout, Sound}
use Rattle.scans.specs.Scans.{single, meeting}
use Rattle.moves.specs.Jobs.{Model, changed}
use Rattle.moves.specs.Moves.{peel_at}
use Rattle.jobs.specs.Moving.{meets_in_one}
use Rattle.jobs.specs.Theorem.{Stopping}
use Rattle.jobs.proofs.Counts.{member_closed}
use Rattle.jobs.proofs.Picks.{kept_kept}
use Rattle.jobs.proofs.Keeping.{Keeps}
use Rattle.jobs.proofs.Books.{InBooks, books_changed, books_peel}

-- every stopping set inside the erasure is open
abbrev pub Stops : Layout → Set → Model → Type 0
Stops c erasure m = (s : Set) → Stopping c s → Inside s erasure → Inside s (member m.opened)

-- the one open qubit of a check is in no stopping set that is open
out_of : (c : Layout) (m : Model) (u v : ℕ) → u < c.checks → meeting c (member m.opened) u ≡ v ∷ [] → (s : Set) → Stopping c s → Inside s (member m.opened) → s v ≡ false
out_of c m u v h only s stopping inside =
    ⊎_elim
    (λ on.
    let met : meeting c s u ≡ v ∷ [] = kept_kept (member m.opened) s inside (c.of_check u) ∙ ap (filter s) only ∙ ap (λ b. cond b (v ∷ []) []) on in
    absurd (both_ways (meets_in_one c s u) (stopping u h) (ap (λ l. is_some (single l)) met)))
    (λ off. off)
    (cases_Bool (s v))

module _ (c : Layout) (sound : Sound c) (syndrome erasure : Set) where
  abbrev Booked : Model → Type 0
  Booked = InBooks c syndrome erasure

  stops_peel : (m : Model) (u v : ℕ) → Booked m → Stops c erasure m → u < c.checks → meeting c (member m.opened) u ≡ v ∷ [] → Stops c erasure (peel_at c m u v)
  stops_peel m u v b k h only s stopping inside w on =
      let out = out_of c m u v h only s stopping (k s stopping inside) in
      let was = k s stopping inside w on in
      ap (λ o. member (added c.qubits o (λ x. eqb v x && member o x)) w) (same (member m.remaining u))
      ∙ member_closed c.qubits m.opened v b.well_opened w (member_below c.qubits m.opened b.well_opened w was)
      ∙ and_from (member m.opened w) (not (eqb v w)) was
      (⊎_elim (λ e. absurd (both_ways (s w) (ap s (sym (eqb-true v w e)) ∙ out) on)) (λ e. ap not e) (cases_Bool (eqb v w)))
    where
      same : (b : Bool) → (cond b (changed c m (v ∷ [])) m).opened ≡ m.opened
      same true = refl
      same false = refl

  abbrev pub Stopped : Model → Type 0
  Stopped m = Booked m × Stops c erasure m

  -- as long as no prune is accepted
  pub stopped_keeps : Keeps c Stopped (λ n. n ≡ 0)
  stopped_keeps = record {
    none = refl;
    parted = λ a b e. (omega arith, omega arith);
    by_peel = λ m u v k h only. (books_peel c sound syndrome erasure m u v k.0 only, stops_peel m u v k.0 k.1 h only);
    by_prune = λ e. absurd (omega arith);
    by_flip = λ m f k inside. (books_changed c sound syndrome erasure m f k.0 inside, k.1);
  }
