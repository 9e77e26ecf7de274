-- From what the body of a prune does to what a prune is. Assumes nothing.
use Rattle.std.proofs.Common.{◌≡◌, ℕ, ◌+◌, ◌<◌, min, true, ◌&&◌, ltb, List, [], ◌∷◌, None, Ok, refl, ap, ◌∙◌}
use Rattle.std.proofs.lemmas.Bool.{lt-ltb, and_from}
use Rattle.refusals.specs.declared.Refusal.TheVariants.{NumberOutOfRange, NotInGenerator, NotAllOpen}
use Rattle.refusals.specs.Questions.{Question, first_no}
use Rattle.refusals.proofs.Asking.{none_from_yes, first_no_rest}
use Rattle.patterns.specs.Sets.{has}
use Rattle.patterns.specs.Patterns.{member, toggled}
use Rattle.codes.specs.Layouts.{Layout}
use Rattle.moves.specs.Jobs.{Model, Outcome, pattern_questions, counted, closed, most_moves}
use Rattle.scans.specs.Scans.{all_in}
use Rattle.scans.proofs.Scanning.{all_in_has}
use Rattle.moves.specs.Moves.{prune_questions, prune_of}
use Rattle.moves.proofs.Asked.{accepted_at, lengths_asked, model_same}
use Rattle.moves.proofs.Closing.{closed_is}

-- the questions of a prune that follow those of every call
abbrev pub own_questions : Layout → Model → ℕ → ℕ → List Question
own_questions c m g v =
    (ltb g c.generators && ltb v c.qubits, NumberOutOfRange)
    ∷ (has (c.of_generator g) v, NotInGenerator)
    ∷ (all_in (member m.opened) (c.of_generator g), NotAllOpen)
    ∷ []

module _ (c : Layout) (m : Model) (g v : ℕ) (g_within : g < c.generators) (v-within : v < c.qubits) (asked : first_no (pattern_questions c m) ≡ None)
    (held : has (c.of_generator g) v ≡ true) (all : all_in (member m.opened) (c.of_generator g) ≡ true) where
  all_yes : first_no (prune_questions c m g v) ≡ None
  all_yes =
      first_no_rest (pattern_questions c m) (own_questions c m g v) asked
      ∙ none_from_yes (own_questions c m g v) (and_from (ltb g c.generators) (ltb v c.qubits) (lt-ltb g c.generators g_within) (lt-ltb v c.qubits v-within), (held, (all, tt)))

  pub prune_made : (o : List ℕ) → o ≡ toggled m.opened v → (n : ℕ) → n ≡ min (m.moves + 1) most_moves
      → ◌≡◌ {A = Outcome (Unit {0})} (Ok tt, record { remaining = m.remaining; opened = o; correction = m.correction; moves = n }) (prune_of c m g v)
  prune_made o eo n en =
      ap (λ j. (Ok tt, j)) (model_same refl (eo ∙ closed_is c m v (lengths_asked c m asked).opened v-within (all_in_has (member m.opened) (c.of_generator g) all v held)) refl en)
      ∙ accepted_at (first_no (prune_questions c m g v)) m (Ok tt, counted (closed c m v)) all_yes
