-- What each kind of move keeps, any list of moves and any list of calls keeps. Assumes nothing.
use Rattle.std.proofs.Common.{◌≡◌, ℕ, ◌+◌, ◌<◌, true, List, [], ◌∷◌, Ok}
use Rattle.refusals.specs.Questions.{first_no}
use Rattle.patterns.specs.Sets.{Inside, has}
use Rattle.patterns.specs.Patterns.{member}
use Rattle.codes.specs.Layouts.{Layout}
use Rattle.scans.specs.Scans.{all_in, meeting}
use Rattle.moves.specs.Jobs.{Model, counted, changed, closed, pattern_questions}
use Rattle.moves.specs.Moves.{peel_at}
use Rattle.jobs.specs.Moving.{Move, peel, prune, flip, moved, moved_all}
use Rattle.jobs.specs.Verdicts.{verdict}
use Rattle.jobs.specs.Runs.{prunes, run_moves, run_by}
use Rattle.jobs.specs.Calls.{Call, move, run, ask, Answer, peeled, pruned, flipped, ran, told, answered_by, call, after, answers}
use Rattle.jobs.specs.Theorem.{prunes_in, prunes_told}
use Rattle.jobs.proofs.Outcomes.{refused_or_either, peel_either, prune_either, flip_either, flip_set_open}

-- P is kept by accepted peels and flips, and by accepted prunes where ok allows one
pub record Keeps (c : Layout) (P : Model → Type 0) (ok : ℕ → Type 0) : Type 0 where
  pub none : ok 0
  pub parted : (a b : ℕ) → ok (a + b) → ok a × ok b
  pub by_peel : (m : Model) (u v : ℕ) → P m → u < c.checks → meeting c (member m.opened) u ≡ v ∷ [] → P (peel_at c m u v)
  pub by_prune : ok 1 → (m : Model) (g v : ℕ) → P m → g < c.generators → has (c.of_generator g) v ≡ true → all_in (member m.opened) (c.of_generator g) ≡ true → P (counted (closed c m v))
  pub by_flip : (m : Model) (f : List ℕ) → P m → Inside (has f) (member m.opened) → P (counted (changed c m f))

module _ (c : Layout) (P : Model → Type 0) (ok : ℕ → Type 0) (keeps : Keeps c P ok) where
  pub moved_keeps : (m : Model) → P m → (k : Move) → ok (prunes (k ∷ [])) → P (moved c m k)
  moved_keeps m h (peel u) o = peel_either c m (λ r. P r.1) u (λ _. h) (λ v l only. keeps.by_peel m u v h l only)
  moved_keeps m h (prune g v) o = prune_either c m (λ r. P r.1) g v (λ _. h) (λ l held wide. keeps.by_prune o m g v h l held wide)
  moved_keeps m h (flip g) o = flip_either c m (λ r. P r.1) g (λ _. h) (λ f e. keeps.by_flip m f h (flip_set_open c m g f e))

  -- of the first move, and of the rest
  head_tail : (k : Move) (ks : List Move) → ok (prunes (k ∷ ks)) → ok (prunes (k ∷ [])) × ok (prunes ks)
  head_tail (peel u) ks o = (keeps.none, o)
  head_tail (prune g v) ks o = keeps.parted 1 (prunes ks) o
  head_tail (flip g) ks o = (keeps.none, o)

  pub moved_all_keeps : (ks : List Move) (m : Model) → P m → ok (prunes ks) → P (moved_all c m ks)
  moved_all_keeps [] m h o = h
  moved_all_keeps (k ∷ ks) m h o =
      let both = head_tail k ks o in
      moved_all_keeps ks (moved c m k) (moved_keeps m h k both.0) both.1

  -- an answer, with what the call leaves
  abbrev Right : Answer × Model → Type 0
  Right r = ok (prunes_in r.0) → P r.1

  call_keeps : (m : Model) → P m → (k : Call) → Right (call c m k)
  call_keeps m h (move (peel u)) = peel_either c m (λ r. Right (answered_by (λ p. peeled p.0 p.1) r)) u (λ _ _. h) (λ v l only _. keeps.by_peel m u v h l only)
  call_keeps m h (move (prune g v)) = prune_either c m (λ r. Right (answered_by (λ _. pruned) r)) g v (λ _ _. h) (λ l held wide o. keeps.by_prune o m g v h l held wide)
  call_keeps m h (move (flip g)) = flip_either c m (λ r. Right (answered_by (λ p. flipped p.0 p.1) r)) g (λ _ _. h) (λ f e _. keeps.by_flip m f h (flip_set_open c m g f e))
  call_keeps m h run = refused_or_either (λ r. Right (answered_by ran r)) (first_no (pattern_questions c m)) m (run_by c m (run_moves c m)) (λ _ _. h) (λ _ o. moved_all_keeps (run_moves c m) m h o)
  call_keeps m h ask = refused_or_either (λ r. Right (answered_by told r)) (first_no (pattern_questions c m)) m (Ok (verdict c m), m) (λ _ _. h) (λ _ _. h)

  pub after_keeps : (ks : List Call) (m : Model) → P m → ok (prunes_told (answers c m ks)) → P (after c m ks)
  after_keeps [] m h o = h
  after_keeps (k ∷ ks) m h o =
      let both = keeps.parted (prunes_in (call c m k).0) (prunes_told (answers c (call c m k).1 ks)) o in
      after_keeps ks (call c m k).1 (call_keeps m h k both.0) both.1
