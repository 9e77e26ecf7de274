-- The next move is accepted, and takes from what bounds a run. Assumes nothing.
use Rattle.std.proofs.Common.{◌≡◌, ℕ, ◌+◌, ◌<◌, ◌≤◌, min, true, false, cond, not, ◌&&◌, eqb, List, [], ◌∷◌, Some, None, Ok, Err, sym, refl, ap, ◌∙◌, subst, ⊎_elim, arith}
use mathlib.Core.Bool.{or-false}
use Rattle.std.proofs.lemmas.Bool.{and_parts, and_from, both_ways, cond_both}
use Rattle.refusals.specs.declared.Refusal.{Refusal}
use Rattle.refusals.specs.Questions.{first_no}
use Rattle.patterns.specs.Sets.{Set, has, parity, tally}
use Rattle.patterns.specs.Patterns.{member, added, weight}
use Rattle.patterns.proofs.Added.{added_none}
use Rattle.patterns.proofs.Lists.{parity_same, parity_none, parity_one}
use Rattle.patterns.proofs.Weighed.{tally_same, tally_has, weight_well}
use Rattle.codes.specs.Layouts.{Layout, Sound}
use Rattle.scans.specs.Scans.{single, is_empty, all_in, meeting}
use Rattle.flips.specs.Flips.{open_in, left_by, flip_set}
use Rattle.moves.specs.Jobs.{Model, Outcome, changed, most_moves, pattern_questions}
use Rattle.moves.specs.Moves.{peel_of, prune_of, flip_of}
use Rattle.moves.proofs.Peels.{single_is, peel_accepted}
use Rattle.jobs.specs.Choosing.{or_else, lowest, least}
use Rattle.jobs.specs.Moving.{Move, peel, prune, flip, moved, dangling, wholly_open, lowerable, next_peel, next_prune, next_flip, next}
use Rattle.jobs.specs.Runs.{enough}
use Rattle.jobs.specs.Calls.{move, Answer, refused, peeled, pruned, flipped, answered_by, call}
use Rattle.best_sets.proofs.Laws.{lowering_lowers}
use Rattle.jobs.proofs.Counts.{tally_sum, tally_some, weight_added, weight_closed}
use Rattle.scans.proofs.Scanning.{all_in_has}
use Rattle.jobs.proofs.Picks.{some_is, or_else_some, mapped_some, lowest_some, least_in, at_one}
use Rattle.jobs.proofs.Outcomes.{prune_accepted, flip_accepted}
use Rattle.jobs.proofs.Fits.{Fits, fits_asked}

-- an answer that is no refusal, with a job that has one move more and is nearer to its end
pub record Onward (m : Model) (r : Answer × Model) : Type 0 where
  pub accepted : (e : Refusal) → r.0 ≡ refused e → ⊥
  pub less : enough r.1 < enough m
  pub one_more : r.1.moves ≡ min (m.moves + 1) most_moves

module _ (c : Layout) (sound : Sound c) (m : Model) (asked : first_no (pattern_questions c m) ≡ None) where
  fits : Fits c m
  fits = fits_asked c m asked

  -- ---- peels

  -- one qubit lies in at most twelve checks, and one of them is cleared
  at_most_ten : (u v : ℕ) → u < c.checks → v < c.qubits → has (c.of_check u) v ≡ true → member m.remaining u ≡ true → weight (changed c m (v ∷ [])).remaining ≤ weight m.remaining + 10
  at_most_ten u v hu hv held on =
      let t : Set = λ x. parity (has (v ∷ [])) (c.of_check x) in
      let holds : (x : ℕ) → x < c.checks → t x ≡ has (c.of_check x) v = λ x h.
      parity_same (has (v ∷ [])) (eqb v) (c.of_check x) (λ w _. or-false (eqb v w)) ∙ parity_one v (c.of_check x) (sound.by_check.row_apart x h) in
      let few : tally c.checks t ≡ tally c.checks (has (c.checks_of v)) = tally_same c.checks t (has (c.checks_of v)) (λ x h. holds x h ∙ sound.by_check.same x v h hv) in
      omega (
        arith,
        weight_added c.checks m.remaining t fits.of_remaining,
        weight_well c.checks m.remaining fits.of_remaining,
        few,
        tally_sum c.checks (member m.remaining) t,
        tally_has c.checks (c.checks_of v),
        sound.by_check.column_few v hv,
        tally_some c.checks (λ x. member m.remaining x && t x) u hu (and_from (member m.remaining u) (t u) on (holds u hu ∙ held)),
      )

  -- half of a peel: what it leaves open, the weight, and the count
  abbrev Half : Model → Type 0
  Half x = (x.opened ≡ m.opened) × (weight x.remaining ≤ weight m.remaining + 10) × (x.moves ≡ m.moves)

  peel_onward : (u v : ℕ) → u < c.checks → Some v ≡ single (meeting c (member m.opened) u) → Onward m (call c m (move (peel u)))
  peel_onward u v h one =
      let at = at_one c (member m.opened) u v (single_is (meeting c (member m.opened) u) v one) in
      let below : v < c.qubits = sound.by_check.row_within u v h at.0 in
      let mid : Model = cond (member m.remaining u) (changed c m (v ∷ [])) m in
      let half : Half mid = cond_both (member m.remaining u) (changed c m (v ∷ [])) m Half
      (λ on. (refl, at_most_ten u v h below at.0 on, refl))
      (λ _. (refl, omega arith, refl)) in
      let closing : weight (added c.qubits mid.opened (λ w. eqb v w && member mid.opened w)) < weight m.opened =
      subst (λ o. weight (added c.qubits o (λ w. eqb v w && member o w)) < weight m.opened) (sym half.0)
      (weight_closed c.qubits m.opened v fits.of_opened below at.1) in
      subst (λ r. Onward m (answered_by (λ p. peeled p.0 p.1) r)) (peel_accepted c sound m u v h one asked)
      (record {
        accepted = λ e k. cc;
        less = omega (arith, half.1, closing);
        one_more = ap (λ n. min (n + 1) most_moves) half.2;
      })

  -- ---- prunes

  prune_onward : (g v : ℕ) → g < c.generators → has (c.of_generator g) v ≡ true → all_in (member m.opened) (c.of_generator g) ≡ true → Onward m (call c m (move (prune g v)))
  prune_onward g v h held wide =
      let below : v < c.qubits = sound.by_generator.row_within g v h held in
      subst (λ r. Onward m (answered_by (λ _. pruned) r)) (prune_accepted c m asked g v h below held wide)
      (record {
        accepted = λ e k. cc;
        less = omega (arith, weight_closed c.qubits m.opened v fits.of_opened below (all_in_has (member m.opened) (c.of_generator g) wide v held));
        one_more = refl;
      })

  least_onward : (g : ℕ) → g < c.generators → (l : List ℕ) → c.of_generator g ≡ l → not (is_empty l) ≡ true → all_in (member m.opened) (c.of_generator g) ≡ true → Onward m (call c m (move (prune g (least l))))
  least_onward g h [] e some wide = absurd (both_ways false refl some)
  least_onward g h (v ∷ vs) e some wide = prune_onward g (least (v ∷ vs)) h (ap (λ l. has l (least (v ∷ vs))) e ∙ least_in v vs) wide

  -- ---- flips

  -- no set leaves the weight as it is
  left_by_none : left_by c m.remaining [] ≡ weight m.remaining
  left_by_none = ap weight (sym (added_none c.checks m.remaining (λ u. parity (has []) (c.of_check u)) (λ u. parity_none (has []) (c.of_check u) (λ _ _. refl))))

  flip_onward : (g : ℕ) (f : List ℕ) → g < c.generators → flip_set c m.remaining m.opened g ≡ Some f → Onward m (call c m (move (flip g)))
  flip_onward g f h some =
      subst (λ r. Onward m (answered_by (λ p. flipped p.0 p.1) r)) (flip_accepted c m asked g f h some)
      (record {
        accepted = λ e k. cc;
        less = omega (arith, left_by_none, lowering_lowers (left_by c m.remaining) (open_in c (member m.opened) g) f some);
        one_more = refl;
      })

  -- ---- the next move

  pub next_onward : (k : Move) → next c m ≡ Some k → Onward m (call c m (move k))
  next_onward k e =
      let P : Move → Type 0 = λ x. Onward m (call c m (move x)) in
      ⊎_elim
      (λ a.
      let at = mapped_some peel (lowest c.checks (dangling c m)) k a in
      let low = lowest_some c.checks (dangling c m) at.0 at.1 in
      let one = some_is (single (meeting c (member m.opened) at.0)) low.1 in
      subst P at.2 (peel_onward at.0 one.0 low.0 (sym one.1)))
      (λ b.
      ⊎_elim
      (λ a.
      let at = mapped_some (λ g. prune g (least (c.of_generator g))) (lowest c.generators (wholly_open c m)) k a in
      let low = lowest_some c.generators (wholly_open c m) at.0 at.1 in
      let both = and_parts (not (is_empty (c.of_generator at.0))) (all_in (member m.opened) (c.of_generator at.0)) low.1 in
      subst P at.2 (least_onward at.0 low.0 (c.of_generator at.0) refl both.0 both.1))
      (λ a.
      let at = mapped_some flip (lowest c.generators (lowerable c m)) k a in
      let low = lowest_some c.generators (lowerable c m) at.0 at.1 in
      let some = some_is (flip_set c m.remaining m.opened at.0) low.1 in
      subst P at.2 (flip_onward at.0 some.0 low.0 some.1))
      (or_else_some (next_prune c m) (next_flip c m) k b))
      (or_else_some (next_peel c m) (or_else (next_prune c m) (next_flip c m)) k e)

answered_leaves : {X : Type 0} (f : X → Answer) (r : Outcome X) → (answered_by f r).1 ≡ r.1
answered_leaves f (Ok x, m) = refl
answered_leaves f (Err e, m) = refl

-- a single call of a move leaves what the move leaves
pub call_moved : (c : Layout) (m : Model) (k : Move) → (call c m (move k)).1 ≡ moved c m k
call_moved c m (peel u) = answered_leaves (λ p. peeled p.0 p.1) (peel_of c m u)
call_moved c m (prune g v) = answered_leaves (λ _. pruned) (prune_of c m g v)
call_moved c m (flip g) = answered_leaves (λ p. flipped p.0 p.1) (flip_of c m g)

-- the next move takes from what bounds the run
pub next_falls : (c : Layout) → Sound c → (m : Model) → first_no (pattern_questions c m) ≡ None → (k : Move) → next c m ≡ Some k → enough (moved c m k) < enough m
next_falls c sound m asked k e = subst (λ x. enough x < enough m) (call_moved c m k) (next_onward c sound m asked k e).less
