-- A run in progress: the moves made so far, and those to come. Assumes nothing.
use Rattle.std.proofs.Common.{◌≡◌, ℕ, ◌+◌, ◌*◌, ◌<◌, ◌≤◌, List, [], ◌∷◌, Some, None, Ok, sym, ap, ◌∙◌, arith}
use Rattle.refusals.specs.Questions.{first_no, answer}
use Rattle.refusals.proofs.Asking.{answer_ok}
use Rattle.verdicts.specs.declared.Verdict.{Verdict}
use Rattle.codes.specs.Layouts.{Layout, Sound, most_qubits, most_rows}
use Rattle.moves.specs.Jobs.{Model, Outcome, pattern_questions}
use Rattle.moves.proofs.Asked.{accepted_at}
use Rattle.jobs.specs.declared.answers.Run.{Run}
use Rattle.jobs.specs.declared.counting.Counts.{Counts}
use Rattle.jobs.specs.Moving.{Move, peel, prune, flip, moved, moved_all, next}
use Rattle.jobs.specs.Verdicts.{verdict}
use Rattle.jobs.specs.Progress.{counts_of, with_move, with_all, none_yet, together, Came}
use Rattle.jobs.specs.Runs.{onward, enough, run_moves, peels, prunes, flips, run_by, run_of}
use Rattle.jobs.proofs.Fits.{moved_fits, enough_small}
use Rattle.jobs.proofs.Falls.{next_falls}
use Rattle.jobs.proofs.Unfolds.{run_unfolds}

counts_same : {a a' b b' d d' : ℕ} → a ≡ a' → b ≡ b' → d ≡ d' → ◌≡◌ {A = Counts} (record { peels = a; prunes = b; flips = d }) (record { peels = a'; prunes = b'; flips = d' })
counts_same p q r = λ i. record { peels = p i; prunes = q i; flips = r i }

with_all_is : (n : Counts) (ks : List Move) → with_all n ks ≡ record { peels = n.peels + peels ks; prunes = n.prunes + prunes ks; flips = n.flips + flips ks }
with_all_is n [] = counts_same (omega arith) (omega arith) (omega arith)
with_all_is n (peel u ∷ ks) = with_all_is (with_move n (peel u)) ks ∙ counts_same (omega arith) (omega arith) (omega arith)
with_all_is n (prune g v ∷ ks) = with_all_is (with_move n (prune g v)) ks ∙ counts_same (omega arith) (omega arith) (omega arith)
with_all_is n (flip g ∷ ks) = with_all_is (with_move n (flip g)) ks ∙ counts_same (omega arith) (omega arith) (omega arith)

pub counted_all : (ks : List Move) → with_all none_yet ks ≡ counts_of ks
counted_all ks = with_all_is none_yet ks ∙ counts_same (omega arith) (omega arith) (omega arith)

one_together : (n : Counts) (k : Move) → together (with_move n k) ≡ together n + 1
one_together n (peel u) = omega arith
one_together n (prune g v) = omega arith
one_together n (flip g) = omega arith

module _ (c : Layout) (sound : Sound c) (n₀ : Counts) (start : Model) where
  module _ (n : Counts) (m : Model) (way : Came c n₀ start n m) where
    -- the run from m, where its next move is known
    from_next : (k : Move) → Some k ≡ next c m → run_moves c m ≡ k ∷ run_moves c (moved c m k)
    from_next k e = run_unfolds c sound m way.asked ∙ ap (λ o. onward o (λ k. k ∷ run_moves c (moved c m k))) (sym e)

    from_none : next c m ≡ None → run_moves c m ≡ []
    from_none e = run_unfolds c sound m way.asked ∙ ap (λ o. onward o (λ k. k ∷ run_moves c (moved c m k))) e

    pub falls : (k : Move) → Some k ≡ next c m → enough (moved c m k) < enough m
    falls k e = next_falls c sound m way.asked k (sym e)

    pub goes_on : (k : Move) → Some k ≡ next c m → Came c n₀ start (with_move n k) (moved c m k)
    goes_on k e = record {
      asked = moved_fits c m way.asked k;
      few = omega (arith, falls k e, one_together n k, way.few);
      counts = sym (ap (with_all n) (from_next k e)) ∙ way.counts;
      after = sym (ap (moved_all c m) (from_next k e)) ∙ way.after;
    }

    pub ended_counts : next c m ≡ None → n ≡ with_all n₀ (run_moves c start)
    ended_counts e = sym (ap (with_all n) (from_none e)) ∙ way.counts

    pub ended_after : next c m ≡ None → m ≡ moved_all c start (run_moves c start)
    ended_after e = sym (ap (moved_all c m) (from_none e)) ∙ way.after

-- a run that has come on, and then on
pub came_on : (c : Layout) (n₀ : Counts) (m₀ : Model) (n₁ : Counts) (m₁ : Model) (n₂ : Counts) (m₂ : Model) → Came c n₀ m₀ n₁ m₁ → Came c n₁ m₁ n₂ m₂ → Came c n₀ m₀ n₂ m₂
came_on c n₀ m₀ n₁ m₁ n₂ m₂ p q = record {
  asked = q.asked;
  few = omega (arith, p.few, q.few);
  counts = q.counts ∙ p.counts;
  after = q.after ∙ p.after;
}

-- the moves of a run are few
pub few_moves : (c : Layout) → Sound c → (m : Model) → first_no (pattern_questions c m) ≡ None → enough m ≤ 11 * most_qubits + most_rows
few_moves c sound m asked = omega (arith, enough_small c m asked, sound.few_qubits, sound.few_checks)

-- ---- the run's answer

module _ (c : Layout) (m : Model) where
  pub run_accepted : Ok tt ≡ answer (first_no (pattern_questions c m)) → (n : Counts) (j : Model) (v : Verdict) → n ≡ counts_of (run_moves c m) → j ≡ moved_all c m (run_moves c m) → v ≡ verdict c j
      → ◌≡◌ {A = Outcome Run} (Ok (record { peels = n.peels; prunes = n.prunes; flips = n.flips; verdict = v }), j) (run_of c m)
  run_accepted fits n j v counts after told =
      let asked = first_no (pattern_questions c m) in
      let same : v ≡ verdict c (moved_all c m (run_moves c m)) = told ∙ ap (verdict c) after in
      (λ i. (Ok (record { peels = (counts i).peels; prunes = (counts i).prunes; flips = (counts i).flips; verdict = same i }), after i))
      ∙ accepted_at asked m (run_by c m (run_moves c m)) (answer_ok asked fits)
