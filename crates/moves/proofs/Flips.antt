-- From what the body of a flip does to what a flip is. Assumes nothing.
use Rattle.std.proofs.Common.{◌≡◌, ℕ, ◌+◌, ◌<◌, min, true, ◌&&◌, ltb, List, [], ◌∷◌, length, Some, None, Ok, Option, sym, refl, ap, ◌∙◌, ap₂, arith}
use Rattle.std.specs.Option.{option_map}
use Rattle.std.proofs.lemmas.Bool.{lt-ltb}
use Rattle.refusals.specs.declared.Refusal.TheVariants.{NumberOutOfRange}
use Rattle.refusals.specs.Questions.{first_no}
use Rattle.refusals.proofs.Asking.{none_from_yes, first_no_rest}
use Rattle.patterns.specs.Sets.{has, Apart}
use Rattle.patterns.specs.Patterns.{member, toggled_all}
use Rattle.patterns.proofs.Lists.{members_apart, members_within}
use Rattle.patterns.proofs.Toggled.{toggled_all_is}
use Rattle.codes.specs.Layouts.{Layout}
use Rattle.best_sets.proofs.Laws.{lowering_inside, lowering_apart}
use Rattle.flips.specs.Flips.{open_in, remaining_after, left_by, flip_set, with_fall, best_flip}
use Rattle.flips.proofs.Picked.{asked}
use Rattle.moves.specs.Jobs.{Model, Outcome, refused_or, pattern_questions, most_moves}
use Rattle.moves.specs.Moves.{flip_questions, flip_by, flip_of}
use Rattle.moves.proofs.Asked.{lengths_asked, clean_asked, model_same}

mapped_some : {X Y : Type 0} (f : X → Y) (o : Option X) (y : Y) → Some y ≡ option_map f o → (x : X) × (o ≡ Some x) × (y ≡ f x)
mapped_some f None y e = let z : ◌≡◌ {A = ℕ} 0 1 = cc in absurd (omega arith)
mapped_some f (Some x) y e = let same : y ≡ f x = cc in (x, refl, same)

-- the set that is flipped
pub record Flipped (c : Layout) (m : Model) (g fall : ℕ) (f : List ℕ) : Type 0 where
  pub is : flip_set c m.remaining m.opened g ≡ Some f
  pub falls : fall ≡ (with_fall c m.remaining f).0
  pub within : (v : ℕ) → has f v ≡ true → v < c.qubits
  pub apart : Apart f

module _ (c : Layout) (m : Model) (g : ℕ) (below : g < c.generators) (yes : first_no (pattern_questions c m) ≡ None) where
  -- what was found
  pub flipped_is : (fall : ℕ) (f : List ℕ) → Some (fall, f) ≡ best_flip c m.remaining m.opened g → Flipped c m g fall f
  flipped_is fall f e =
      let r = m.remaining in
      let xs = open_in c (member m.opened) g in
      let found = mapped_some (with_fall c r) (flip_set c r m.opened g) (fall, f) (e ∙ asked c r m.opened g (lengths_asked c m yes).remaining (clean_asked c m yes) below) in
      let same : f ≡ found.0 = ap (λ p. p.1) found.2 in
      let some : flip_set c r m.opened g ≡ Some f = found.1 ∙ ap Some (sym same) in
      record {
        is = some;
        falls = ap (λ p. p.0) found.2 ∙ ap (λ s. (with_fall c r s).0) (sym same);
        within = λ v h. members_within c.qubits (λ v. has (c.of_generator g) v && member m.opened v) v (lowering_inside (left_by c r) xs f some v h);
        apart = lowering_apart (left_by c r) xs f some (members_apart c.qubits (λ v. has (c.of_generator g) v && member m.opened v));
      }

  pub flip_made : (fall : ℕ) (f : List ℕ) → Flipped c m g fall f
      → (r k : List ℕ) (n : ℕ) → r ≡ remaining_after c m.remaining f → k ≡ toggled_all m.correction f → n ≡ min (m.moves + 1) most_moves
      → ◌≡◌ {A = Outcome (ℕ × ℕ)} (Ok (fall, length f), record { remaining = r; opened = m.opened; correction = k; moves = n }) (flip_of c m g)
  flip_made fall f flip r k n er ek en =
      let all : first_no (flip_questions c m g) ≡ None = first_no_rest (pattern_questions c m) ((ltb g c.generators, NumberOutOfRange) ∷ []) yes ∙ none_from_yes ((ltb g c.generators, NumberOutOfRange) ∷ []) (lt-ltb g c.generators below, tt) in
      ap₂ (λ x j. (Ok (x, length f), j)) flip.falls (model_same er refl (ek ∙ toggled_all_is c.qubits f m.correction (lengths_asked c m yes).correction flip.within flip.apart) en)
      ∙ sym (ap (λ a. refused_or a m (flip_by c m (flip_set c m.remaining m.opened g))) all ∙ ap (flip_by c m) flip.is)
