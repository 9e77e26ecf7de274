-- From the best set of the open qubits to the flip of a generator. Assumes nothing.
use Rattle.std.proofs.Common.{◌≡◌, ℕ, ◌-◌, ◌<◌, true, ◌&&◌, ltb, List, [], Some, None, Option, sym, refl, ap, ◌∙◌, ap₂}
use Rattle.std.specs.Option.{option_map}
use Rattle.std.proofs.lemmas.Bool.{lt-ltb, and_from, cond-true}
use Rattle.patterns.specs.Sets.{has, parity}
use Rattle.patterns.specs.Patterns.{member, weight, fitting, tidy}
use Rattle.patterns.proofs.Lists.{parity_none}
use Rattle.patterns.proofs.Added.{added_none}
use Rattle.codes.specs.Layouts.{Layout}
use Rattle.best_sets.specs.Best.{lowering}
use Rattle.flips.specs.declared.flip.Flip.{Flip}
use Rattle.flips.specs.Local.{picked, BestBy}
use Rattle.flips.specs.Flips.{open_in, left_by, flip_set, with_fall, best_flip}
use Rattle.flips.specs.Held.{told}
use Rattle.flips.proofs.Chosen.{none_lowers, one_lowers}

-- no qubits change nothing
pub left_by_none : (c : Layout) (r : List ℕ) → weight r ≡ left_by c r []
left_by_none c r = ap weight (added_none c.checks r (λ u. parity (has []) (c.of_check u)) (λ u. parity_none (has []) (c.of_check u) (λ _ _. refl)))

module _ (c : Layout) (r o : List ℕ) (g : ℕ) (long : fitting c.checks r ≡ true) (clean : tidy c.checks r ≡ true) (below : g < c.generators) where
  pub asked : best_flip c r o g ≡ option_map (with_fall c r) (flip_set c r o g)
  asked =
      cond-true (fitting c.checks r && (tidy c.checks r && ltb g c.generators)) (option_map (with_fall c r) (flip_set c r o g)) None
      (and_from (fitting c.checks r) (tidy c.checks r && ltb g c.generators) long (and_from (tidy c.checks r) (ltb g c.generators) clean (lt-ltb g c.generators below)))

  module _ (xs : List ℕ) (is_open : xs ≡ open_in c (member o) g) (fall picks : ℕ) (best : BestBy (left_by c r) xs fall picks) where
    pub none_flips : fall ≡ 0 → ◌≡◌ {A = Option (ℕ × List ℕ)} None (best_flip c r o g)
    none_flips z = sym (asked ∙ ap (option_map (with_fall c r)) (ap (lowering (left_by c r)) (sym is_open) ∙ none_lowers (left_by c r) xs fall picks best z))

    pub one_flips : (fall ≡ 0 → ⊥) → (f : Flip) → told f ≡ (fall, picked picks xs) → Some (told f) ≡ best_flip c r o g
    one_flips some f is =
        ap Some (is ∙ ap (λ n. (n, picked picks xs)) (best.falls ∙ ap₂ (λ a s. a - left_by c r s) (sym (left_by_none c r)) (sym best.is)))
        ∙ sym (asked ∙ ap (option_map (with_fall c r)) (ap (lowering (left_by c r)) (sym is_open) ∙ one_lowers (left_by c r) xs fall picks best some))
