-- One peel or prune of a run: it is the run's next move, and where the next one is looked for after it. Assumes nothing.
use Rattle.std.proofs.Common.{◌≡◌, ℕ, ◌<◌, Bool, true, false, cond, not, ◌&&◌, List, [], ◌∷◌, Some, None, sym, refl, ap, ◌∙◌, subst, ap₂, arith}
use Rattle.std.specs.Option.{option_map}
use Rattle.std.proofs.lemmas.Bool.{and_parts, both_ways}
use Rattle.refusals.specs.Questions.{first_no}
use Rattle.patterns.specs.Sets.{has}
use Rattle.patterns.specs.Patterns.{member}
use Rattle.codes.specs.Layouts.{Layout, Sound}
use Rattle.scans.specs.Scans.{is_empty, all_in, meeting}
use Rattle.moves.specs.Jobs.{Model, pattern_questions, changed, closed}
use Rattle.moves.proofs.Peels.{single_is, peel_accepted}
use Rattle.jobs.specs.declared.closing.Closing.{Closing}
use Rattle.jobs.specs.declared.closing.Closing.TheVariants.{Peel, Prune}
use Rattle.jobs.specs.declared.closing.Cursors.{Cursors}
use Rattle.jobs.specs.Choosing.{or_else, lowest, least}
use Rattle.jobs.specs.Moving.{peel, prune, moved, meets_in_one, dangling, wholly_open, next_prune, next_flip, next}
use Rattle.jobs.specs.Closings.{as_move, shut_by, Passed, NextClosing, cursors_after}
use Rattle.jobs.proofs.Picks.{lowest_some, least_in, at_one}
use Rattle.jobs.proofs.Outcomes.{prune_accepted}
use Rattle.jobs.proofs.Fits.{fits_asked}
use Rattle.jobs.proofs.Cursors.{lowest_before, least_first, least_among, none_dangles_yet, none_opens}

-- the least of a list that is not empty is in it
least_has : (l : List ℕ) → not (is_empty l) ≡ true → has l (least l) ≡ true
least_has [] some = absurd (both_ways false refl some)
least_has (v ∷ vs) some = least_in v vs

module _ (c : Layout) (sound : Sound c) (m : Model) (asked : first_no (pattern_questions c m) ≡ None) where
  -- the step is the run's next move
  pub step_next : (k : Closing) → NextClosing c m (Some k) → Some (as_move k) ≡ next c m
  step_next (Peel u v) is = ap (λ o. or_else (option_map peel o) (or_else (next_prune c m) (next_flip c m))) is.0
  step_next (Prune g v) is =
      ap (λ w. Some (prune g.0 w)) is.2
      ∙ ap₂ (λ o p. or_else (option_map peel o) (or_else (option_map (λ h. prune h (least (c.of_generator h))) p) (next_flip c m))) is.0 is.1

  -- what a generator that is pruned has
  pruned_at : (g v : ℕ) → Some g ≡ lowest c.generators (wholly_open c m) → v ≡ least (c.of_generator g)
      → (g < c.generators) × (has (c.of_generator g) v ≡ true) × (all_in (member m.opened) (c.of_generator g) ≡ true)
  pruned_at g v low is =
      let at = lowest_some c.generators (wholly_open c m) g (sym low) in
      let both = and_parts (not (is_empty (c.of_generator g))) (all_in (member m.opened) (c.of_generator g)) at.1 in
      (at.0, ap (has (c.of_generator g)) is ∙ least_has (c.of_generator g) both.0, both.1)

  -- the qubit that is closed is one of the code's
  pub step_shuts : (k : Closing) → NextClosing c m (Some k) → shut_by k < c.qubits
  step_shuts (Peel u v) is =
      let at = lowest_some c.checks (dangling c m) u.0 (sym is.0) in
      sound.by_check.row_within u.0 v.0 at.0 (at_one c (member m.opened) u.0 v.0 (single_is (meeting c (member m.opened) u.0) v.0 is.1)).0
  step_shuts (Prune g v) is = let at = pruned_at g.0 v.0 is.1 is.2 in sound.by_generator.row_within g.0 v.0 at.0 at.1

  -- after the step the other qubits are open as before
  step_opened : (k : Closing) → NextClosing c m (Some k) → (moved c m (as_move k)).opened ≡ (closed c m (shut_by k)).opened
  step_opened (Peel u v) is =
      let at = lowest_some c.checks (dangling c m) u.0 (sym is.0) in
      ap (λ r. r.1.opened) (sym (peel_accepted c sound m u.0 v.0 at.0 is.1 asked)) ∙ same (member m.remaining u.0)
    where
      same : (b : Bool) → (closed c (cond b (changed c m (v.0 ∷ [])) m) v.0).opened ≡ (closed c m v.0).opened
      same true = refl
      same false = refl
  step_opened (Prune g v) is =
      let at = pruned_at g.0 v.0 is.1 is.2 in
      ap (λ r. r.1.opened) (sym (prune_accepted c m asked g.0 v.0 at.0 (step_shuts (Prune g v) is) at.1 at.2))

  -- where nothing is to be done after the step
  passed_shut : (from : Cursors) → Passed c m from → (k : Closing) → NextClosing c m (Some k) → Passed c (closed c m (shut_by k)) (cursors_after c from k)
  passed_shut from p (Peel u v) is =
      let at = lowest_some c.checks (dangling c m) u.0 (sym is.0) in
      let low = least_first u.0 (c.checks_of v.0) in
      let shut = step_shuts (Peel u v) is in
      record {
        peeled = none_dangles_yet c sound m (fits_asked c m asked) v.0 shut u.0 (least (u.0 ∷ c.checks_of v.0)) (lowest_before c.checks (dangling c m) u.0 (sym is.0)) low (omega (arith, at.0)) (least_among u.0 (c.checks_of v.0));
        pruned = none_opens c sound m (fits_asked c m asked) v.0 shut from.generator p.pruned;
      }
  passed_shut from p (Prune g v) is =
      let low = least_first c.checks (c.checks_of v.0) in
      let shut = step_shuts (Prune g v) is in
      record {
        peeled = none_dangles_yet c sound m (fits_asked c m asked) v.0 shut c.checks (least (c.checks ∷ c.checks_of v.0)) (sym is.0) low low (least_among c.checks (c.checks_of v.0));
        pruned = none_opens c sound m (fits_asked c m asked) v.0 shut g.0 (lowest_before c.generators (wholly_open c m) g.0 (sym is.1));
      }

  pub step_passed : (from : Cursors) → Passed c m from → (k : Closing) → NextClosing c m (Some k) → Passed c (moved c m (as_move k)) (cursors_after c from k)
  step_passed from p k is =
      let e = sym (step_opened k is) in
      let q = passed_shut from p k is in
      let to = cursors_after c from k in
      record {
        peeled = subst (λ o. lowest to.check (meets_in_one c (member o)) ≡ None) e q.peeled;
        pruned = subst (λ o. lowest to.generator (λ g. not (is_empty (c.of_generator g)) && all_in (member o) (c.of_generator g)) ≡ None) e q.pruned;
      }
