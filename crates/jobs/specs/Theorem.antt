-- Two jobs from one opening: what they have in common, whatever was called on each. Assumes nothing.
use Rattle.std.specs.Prelude.{◌≡◌, ℕ, ◌+◌, ◌<◌, true, false, ◌⊎◌, List, [], ◌∷◌, map, Ok, ◌≢◌}
use Rattle.verdicts.specs.declared.Verdict.TheVariants.{Contradicted, Settled}
use Rattle.patterns.specs.Sets.{Set, ◌⊕◌, sum_of, Inside, has, parity}
use Rattle.patterns.specs.Patterns.{member}
use Rattle.codes.specs.Layouts.{Layout}
use Rattle.moves.specs.Jobs.{Model, open_of}
use Rattle.jobs.specs.Moving.{meets_in_one, dangling}
use Rattle.jobs.specs.Verdicts.{verdict}
use Rattle.jobs.specs.Calls.{Call, Answer, refused, peeled, pruned, flipped, ran, told, after, answers}

-- the set of qubits has the syndrome: a check is in it just when it holds an odd number of them
abbrev pub SyndromeOf : Layout → Set → Set → Type 0
SyndromeOf c e syndrome = (u : ℕ) → u < c.checks → parity e (c.of_check u) ≡ syndrome u

-- the set explains a syndrome and an erasure: it is inside the erasure and has the syndrome
abbrev pub Explains : Layout → Set → Set → Set → Type 0
Explains c syndrome erasure e = Inside e erasure × SyndromeOf c e syndrome

-- no set explains them
abbrev pub Unexplained : Layout → Set → Set → Type 0
Unexplained c syndrome erasure = (e : Set) → Explains c syndrome erasure e → ⊥

-- a stopping set: no check meets it in just one qubit
abbrev pub Stopping : Layout → Set → Type 0
Stopping c s = (u : ℕ) → u < c.checks → meets_in_one c s u ≡ false

-- some stopping set inside the set s holds qubit v
abbrev pub InStoppingSet : Layout → Set → ℕ → Type 0
InStoppingSet c s v = (t : Set) × Stopping c t × Inside t s × (t v ≡ true)

-- the open qubits are those that lie in some stopping set inside the erasure
abbrev pub OpenAreStopping : Layout → Set → Model → Type 0
OpenAreStopping c erasure m =
    (v : ℕ) → v < c.qubits → (member m.opened v ≡ true → InStoppingSet c erasure v) × (InStoppingSet c erasure v → member m.opened v ≡ true)

-- generators of the code, each with all its qubits inside the set s
abbrev pub GeneratorsInside : Layout → Set → List ℕ → Type 0
GeneratorsInside c s gs = (g : ℕ) → has gs g ≡ true → (g < c.generators) × Inside (has (c.of_generator g)) s

-- the sum of generators, as sets of qubits
abbrev pub generators_sum : Layout → List ℕ → Set
generators_sum c gs = sum_of (map (λ g. has (c.of_generator g)) gs)

-- two sets of qubits differ by a sum of generators inside the set s
abbrev pub DifferByGenerators : Layout → Set → Set → Set → Type 0
DifferByGenerators c s a b =
    (gs : List ℕ) × GeneratorsInside c s gs × ((v : ℕ) → v < c.qubits → generators_sum c gs v ≡ (a v ⊕ b v))

-- no check is dangling
abbrev pub NoneDangles : Layout → Model → Type 0
NoneDangles c m = (u : ℕ) → u < c.checks → dangling c m u ≡ false

-- the accepted prunes that an answer tells of
abbrev pub prunes_in : Answer → ℕ
prunes_in (refused e) = 0
prunes_in (peeled v b) = 0
prunes_in pruned = 1
prunes_in (flipped f n) = 0
prunes_in (ran r) = r.prunes
prunes_in (told v) = 0

-- the accepted prunes that answers tell of
abbrev pub prunes_told : List Answer → ℕ
prunes_told [] = 0
prunes_told (a ∷ as') = prunes_in a + prunes_told as'

-- what two jobs l and r from one opening have in common, where al and ar are the answers that each gave
pub record Agree (c : Layout) (syndrome erasure : Set) (al ar : List Answer) (l r : Model) : Type 0 where
  -- the corrections of two settled jobs differ by generators inside the erasure
  pub settled_differ_by_generators : verdict c l ≡ Settled → verdict c r ≡ Settled
      → DifferByGenerators c erasure (member l.correction) (member r.correction)
  -- where no prune was accepted and no check is dangling, what is open in each is the stopping sets inside the erasure
  pub open_are_stopping_sets : prunes_told al ≡ 0 → prunes_told ar ≡ 0 → NoneDangles c l → NoneDangles c r
      → OpenAreStopping c erasure l × OpenAreStopping c erasure r
  -- where one is contradicted, no set inside the erasure has the syndrome, and neither is settled
  pub contradiction_is_final : (verdict c l ≡ Contradicted) ⊎ (verdict c r ≡ Contradicted)
      → Unexplained c syndrome erasure × (verdict c l ≢ Settled) × (verdict c r ≢ Settled)

-- two jobs that were opened with one syndrome and one erasure, whatever they held before, and any calls on each
abbrev pub TwoJobs : Layout → Type 0
TwoJobs c =
    (l r : Model) (syndrome erasure : List ℕ)
    → (open_of c l syndrome erasure).0 ≡ Ok tt
    → (open_of c r syndrome erasure).0 ≡ Ok tt
    → (ls rs : List Call)
    → Agree c (member syndrome) (member erasure)
    (answers c (open_of c l syndrome erasure).1 ls)
    (answers c (open_of c r syndrome erasure).1 rs)
    (after c (open_of c l syndrome erasure).1 ls)
    (after c (open_of c r syndrome erasure).1 rs)
