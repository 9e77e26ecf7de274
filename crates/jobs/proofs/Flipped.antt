-- One flip of a run in which nothing more can be closed. Assumes nothing.
use Rattle.std.proofs.Common.{◌≡◌, ℕ, not, ◌&&◌, Some, None, Option, sym, refl, ap, ◌∙◌, subst, ap₂}
use Rattle.std.specs.Option.{option_map}
use Rattle.patterns.specs.Patterns.{member}
use Rattle.codes.specs.Layouts.{Layout}
use Rattle.scans.specs.Scans.{is_empty, all_in}
use Rattle.moves.specs.Jobs.{Model}
use Rattle.jobs.specs.Choosing.{or_else, lowest, least}
use Rattle.jobs.specs.Moving.{peel, prune, flip, moved, meets_in_one, lowerable, next}
use Rattle.jobs.specs.Closings.{NothingCloses}
use Rattle.jobs.proofs.Outcomes.{flip_either}

module _ (c : Layout) (m : Model) where
  -- where nothing can be closed, the next move is the flip of the lowest generator that can be lowered
  flip_by : NothingCloses c m → (o : Option ℕ) → o ≡ lowest c.generators (lowerable c m) → option_map flip o ≡ next c m
  flip_by shut o is =
      ap (option_map flip) is
      ∙ sym (ap₂ (λ x y. or_else (option_map peel x) (or_else (option_map (λ g. prune g (least (c.of_generator g))) y) (option_map flip (lowest c.generators (lowerable c m))))) shut.none_dangles shut.none_open)

  pub flip_next : (g : ℕ) → NothingCloses c m → Some g ≡ lowest c.generators (lowerable c m) → Some (flip g) ≡ next c m
  flip_next g shut is = flip_by shut (Some g) is

  -- a flip leaves the open qubits
  pub flip_opened : (g : ℕ) → (moved c m (flip g)).opened ≡ m.opened
  flip_opened g = flip_either c m (λ r. r.1.opened ≡ m.opened) g (λ _. refl) (λ f e. refl)

  -- and so nothing can be closed after it
  pub still_closed : (g : ℕ) → NothingCloses c m → NothingCloses c (moved c m (flip g))
  still_closed g shut =
      let e = sym (flip_opened g) in
      record {
        none_dangles = subst (λ o. lowest c.checks (meets_in_one c (member o)) ≡ None) e shut.none_dangles;
        none_open = subst (λ o. lowest c.generators (λ g. not (is_empty (c.of_generator g)) && all_in (member o) (c.of_generator g)) ≡ None) e shut.none_open;
      }
