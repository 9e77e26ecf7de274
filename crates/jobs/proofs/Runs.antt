-- A run makes accepted moves, peels and prunes before flips, and ends where no move applies. Assumes nothing.
use Rattle.std.proofs.Common.{◌≡◌, ℕ, zero, suc, ◌+◌, ◌≤◌, min, true, not, ◌&&◌, List, [], ◌∷◌, length, Some, None, Option, sym, refl, ap, ◌∙◌, subst, ap₂, arith}
use Rattle.std.specs.Option.{option_map}
use Rattle.refusals.specs.Questions.{first_no}
use Rattle.patterns.specs.Patterns.{member}
use Rattle.codes.specs.Layouts.{Layout, Sound}
use Rattle.scans.specs.Scans.{is_empty, all_in}
use Rattle.moves.specs.Jobs.{Model, most_moves, pattern_questions}
use Rattle.jobs.specs.Choosing.{or_else, lowest, least}
use Rattle.jobs.specs.Moving.{Move, peel, prune, flip, moved, moved_all, meets_in_one, dangling, wholly_open, lowerable, next_peel, next_prune, next_flip, next}
use Rattle.jobs.specs.Runs.{onward, moves_of, enough, run_moves, peels, prunes, flips}
use Rattle.jobs.specs.Laws.{AllAccepted, only_flips, flips_last, RunEnds}
use Rattle.jobs.proofs.Picks.{mapped_some}
use Rattle.jobs.proofs.Flipped.{flip_opened}
use Rattle.jobs.proofs.Fits.{moved_fits}
use Rattle.jobs.proofs.Falls.{next_onward, call_moved, next_falls}
use Rattle.jobs.proofs.Unfolds.{none_left}
use Rattle.jobs.proofs.Verdicts.{still}

counts_add_up : (ks : List Move) → peels ks + prunes ks + flips ks ≡ length ks
counts_add_up [] = refl
counts_add_up (peel u ∷ ks) = omega (arith, counts_add_up ks)
counts_add_up (prune g v ∷ ks) = omega (arith, counts_add_up ks)
counts_add_up (flip g ∷ ks) = omega (arith, counts_add_up ks)

module _ (c : Layout) (sound : Sound c) where
  -- ---- the end of a run

  abbrev Ends : Model → List Move → Type 0
  Ends m ks = AllAccepted c m ks × (next c (moved_all c m ks) ≡ None) × (m.moves ≤ most_moves → (moved_all c m ks).moves ≡ min (m.moves + length ks) most_moves)

  ends : (n : ℕ) (m : Model) → first_no (pattern_questions c m) ≡ None → enough m ≤ n → Ends m (moves_of n c m)
  ends zero m asked h = (tt, none_left c sound m asked h, λ l. omega arith)
  ends (suc n) m asked h = part (next c m) refl (λ k l. ends n (moved c m k) (moved_fits c m asked k) l)
    where
      part : (o : Option Move) → next c m ≡ o → ((k : Move) → enough (moved c m k) ≤ n → Ends (moved c m k) (moves_of n c (moved c m k))) → Ends m (onward o (λ k. k ∷ moves_of n c (moved c m k)))
      part None e rest = (tt, e, λ l. omega arith)
      part (Some k) e rest =
          let it = next_onward c sound m asked k e in
          let falls = next_falls c sound m asked k e in
          let one : (moved c m k).moves ≡ min (m.moves + 1) most_moves = ap (λ x. x.moves) (sym (call_moved c m k)) ∙ it.one_more in
          let later = rest k (omega arith) in
          ((it.accepted, later.0), later.1, λ l. later.2 (omega (arith, one)) ∙ omega (arith, one))

  -- ---- flips come last

  -- there is nothing to peel and nothing to prune
  abbrev Quiet : Model → Type 0
  Quiet m = (next_peel c m ≡ None) × (next_prune c m ≡ None)

  -- what there is to peel and to prune goes by the open qubits alone
  still_quiet : (m : Model) (g : ℕ) → Quiet m → Quiet (moved c m (flip g))
  still_quiet m g q = (
    ap (λ o. option_map peel (lowest c.checks (meets_in_one c (member o)))) (flip_opened c m g) ∙ q.0,
    ap (λ o. option_map (λ g. prune g (least (c.of_generator g))) (lowest c.generators (λ g. not (is_empty (c.of_generator g)) && all_in (member o) (c.of_generator g)))) (flip_opened c m g) ∙ q.1,
  )

  -- a move of a quiet job is a flip
  quiet_flips : (m : Model) (k : Move) → Quiet m → next c m ≡ Some k → (g : ℕ) × (flip g ≡ k)
  quiet_flips m k q e =
      let at = mapped_some flip (lowest c.generators (lowerable c m)) k (sym (ap₂ (λ x y. or_else x (or_else y (next_flip c m))) q.0 q.1) ∙ e) in
      (at.0, at.2)

  -- and a job whose move is a flip is quiet
  flips_quiet : (m : Model) (g : ℕ) → next c m ≡ Some (flip g) → Quiet m
  flips_quiet m g e = part (next_peel c m) (next_prune c m) refl refl e
    where
      part : (o p : Option Move) → next_peel c m ≡ o → next_prune c m ≡ p → or_else o (or_else p (next_flip c m)) ≡ Some (flip g) → (o ≡ None) × (p ≡ None)
      part None None a b k = (refl, refl)
      part None (Some x) a b k =
          let at = mapped_some (λ h. prune h (least (c.of_generator h))) (lowest c.generators (wholly_open c m)) (flip g) (b ∙ k) in
          let s : prune at.0 (least (c.of_generator at.0)) ≡ flip g = at.2 in
          absurd (cc)
      part (Some x) p a b k =
          let at = mapped_some peel (lowest c.checks (dangling c m)) (flip g) (a ∙ k) in
          let s : peel at.0 ≡ flip g = at.2 in
          absurd (cc)

  all_flips : (n : ℕ) (m : Model) → Quiet m → only_flips (moves_of n c m) ≡ true
  all_flips zero m q = refl
  all_flips (suc n) m q = part (next c m) refl (λ g. all_flips n (moved c m (flip g)) (still_quiet m g q))
    where
      part : (o : Option Move) → next c m ≡ o → ((g : ℕ) → only_flips (moves_of n c (moved c m (flip g))) ≡ true) → only_flips (onward o (λ k. k ∷ moves_of n c (moved c m k))) ≡ true
      part None e rest = refl
      part (Some k) e rest =
          let at = quiet_flips m k q e in
          subst (λ x. only_flips (x ∷ moves_of n c (moved c m x)) ≡ true) at.1 (rest at.0)

  in_order : (n : ℕ) (m : Model) → flips_last (moves_of n c m) ≡ true
  in_order zero m = refl
  in_order (suc n) m = part (next c m) refl (λ k. in_order n (moved c m k))
    where
      part : (o : Option Move) → next c m ≡ o → ((k : Move) → flips_last (moves_of n c (moved c m k)) ≡ true) → flips_last (onward o (λ k. k ∷ moves_of n c (moved c m k))) ≡ true
      part None e rest = refl
      part (Some (peel u)) e rest = rest (peel u)
      part (Some (prune g v)) e rest = rest (prune g v)
      part (Some (flip g)) e rest = all_flips n (moved c m (flip g)) (still_quiet m g (flips_quiet m g e))

-- the law of runs
pub run_ends : (c : Layout) → Sound c → RunEnds c
run_ends c sound m asked =
    let it = ends c sound (enough m) m asked (omega arith) in
    record {
      accepted = it.0;
      none_applies = it.1;
      not_moving = still c (moved_all c m (run_moves c m)) it.1;
      counts_add_up = counts_add_up (run_moves c m);
      count_grows = it.2;
      flips_come_last = in_order c sound (enough m) m;
    }
