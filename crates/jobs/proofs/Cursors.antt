-- Nothing is to be done below a cursor, and what closing a qubit changes of that. Assumes nothing.
use Rattle.std.proofs.Common.{◌≡◌, ℕ, zero, suc, ◌<◌, ◌≤◌, Bool, true, false, cond, not, ◌&&◌, eqb, List, [], ◌∷◌, is_some, Some, None, Option, sym, refl, ap, ◌∙◌, ⊎_elim, arith}
use mathlib.Core.Bool.{and-true}
use Rattle.std.proofs.lemmas.Bool.{cases_Bool, eqb-true, or_cases, both_ways, and_parts, and_from}
use Rattle.patterns.specs.Sets.{Set, has}
use Rattle.patterns.specs.Patterns.{member, Well}
use Rattle.patterns.proofs.Added.{well_added}
use Rattle.patterns.proofs.Lists.{kept_same}
use Rattle.patterns.proofs.Packed.{member_below}
use Rattle.codes.specs.Layouts.{Layout, Sound}
use Rattle.scans.specs.Scans.{single, is_empty, all_in, meeting}
use Rattle.moves.specs.Jobs.{Model, closed}
use Rattle.jobs.specs.Choosing.{or_at, lowest, least}
use Rattle.jobs.specs.Moving.{dangling, wholly_open}
use Rattle.jobs.proofs.Counts.{member_closed}
use Rattle.jobs.proofs.Picks.{none_is, lowest_none, none_below}
use Rattle.jobs.proofs.Fits.{Fits}

-- ---- the lowest of a set, and of another

-- below the lowest there is none
pub lowest_before : (n : ℕ) (s : Set) (k : ℕ) → lowest n s ≡ Some k → lowest k s ≡ None
lowest_before zero s k e = absurd (cc)
lowest_before (suc n) s k e = part (lowest n s) (lowest_before n s k) refl e
  where
    here : (b : Bool) → lowest n s ≡ None → cond b (Some n) None ≡ Some k → lowest k s ≡ None
    here true none e = let same : n ≡ k = cc in ap (λ i. lowest i s) (sym same) ∙ none
    here false none e = absurd (cc)

    part : (o : Option ℕ) → (lowest n s ≡ Some k → lowest k s ≡ None) → lowest n s ≡ o → or_at o s n ≡ Some k → lowest k s ≡ None
    part (Some j) known q e = known (q ∙ e)
    part None known q e = here (s n) q e

-- what is not in one set is not in another
pub none_carried : (s t : Set) (k n : ℕ) → lowest k s ≡ None → n ≤ k → ((j : ℕ) → j < n → s j ≡ false → t j ≡ false) → lowest n t ≡ None
none_carried s t k n none h keep = none_is (lowest n t) (none_below n t (λ j l. keep j l (lowest_none k s (ap is_some none) j (omega arith))))

-- ---- the least number of a list

pub least_first : (x : ℕ) (xs : List ℕ) → least (x ∷ xs) ≤ x
least_first x [] = omega arith
least_first x (y ∷ ys) = omega arith

pub least_among : (x : ℕ) (xs : List ℕ) (u : ℕ) → has xs u ≡ true → least (x ∷ xs) ≤ u
least_among x [] u h = absurd (both_ways false refl h)
least_among x (y ∷ ys) u h =
    ⊎_elim
    (λ e. let same = eqb-true y u e in let first = least_first y ys in omega arith)
    (λ e. let rest = least_among y ys u e in omega arith)
    (or_cases (eqb y u) (has ys u) h)

-- ---- filters and tests over one list

all_in_more : (s t : Set) → ((k : ℕ) → s k ≡ true → t k ≡ true) → (xs : List ℕ) → all_in s xs ≡ true → all_in t xs ≡ true
all_in_more s t h [] e = refl
all_in_more s t h (x ∷ xs) e = let both = and_parts (s x) (all_in s xs) e in and_from (t x) (all_in t xs) (h x both.0) (all_in_more s t h xs both.1)

-- ---- one qubit is closed

module _ (c : Layout) (sound : Sound c) (m : Model) (fits : Fits c m) (v : ℕ) (below : v < c.qubits) where
  -- the other qubits stay as they are
  still_open : (w : ℕ) → w < c.qubits → eqb v w ≡ false → member (closed c m v).opened w ≡ member m.opened w
  still_open w h off = member_closed c.qubits m.opened v fits.of_opened w h ∙ ap (λ b. member m.opened w && not b) off ∙ and-true (member m.opened w)

  -- none is opened
  was_open : (w : ℕ) → member (closed c m v).opened w ≡ true → member m.opened w ≡ true
  was_open w on =
      let well : Well c.qubits (closed c m v).opened = well_added c.qubits m.opened (λ x. eqb v x && member m.opened x) fits.of_opened in
      let h = member_below c.qubits (closed c m v).opened well w on in
      (and_parts (member m.opened w) (not (eqb v w)) (sym (member_closed c.qubits m.opened v fits.of_opened w h) ∙ on)).0

  -- a check that does not hold the qubit meets the same open qubits as before
  same_meeting : (u : ℕ) → u < c.checks → has (c.checks_of v) u ≡ false → meeting c (member (closed c m v).opened) u ≡ meeting c (member m.opened) u
  same_meeting u h off =
      kept_same (member (closed c m v).opened) (member m.opened) (c.of_check u)
      (λ w held. still_open w (sound.by_check.row_within u w h held)
      (⊎_elim
      (λ e. absurd (both_ways (has (c.of_check u) v) (sound.by_check.same u v h below ∙ off) (ap (has (c.of_check u)) (eqb-true v w e) ∙ held)))
      (λ e. e)
      (cases_Bool (eqb v w))))

  -- below all checks of the qubit, none becomes dangling
  pub none_dangles_yet : (k n : ℕ) → lowest k (dangling c m) ≡ None → n ≤ k → n ≤ c.checks → ((u : ℕ) → has (c.checks_of v) u ≡ true → n ≤ u) → lowest n (dangling c (closed c m v)) ≡ None
  none_dangles_yet k n none h few off =
      none_carried (dangling c m) (dangling c (closed c m v)) k n none h
      (λ j l e.
      let out : has (c.checks_of v) j ≡ false = ⊎_elim (λ on. let high = off j on in absurd (omega arith)) (λ e. e) (cases_Bool (has (c.checks_of v) j)) in
      ap (λ l. is_some (single l)) (same_meeting j (omega arith) out) ∙ e)

  -- no generator becomes wholly open
  pub none_opens : (k : ℕ) → lowest k (wholly_open c m) ≡ None → lowest k (wholly_open c (closed c m v)) ≡ None
  none_opens k none =
      none_carried (wholly_open c m) (wholly_open c (closed c m v)) k k none (omega arith)
      (λ g l e. ⊎_elim (λ on. absurd (both_ways (wholly_open c m g) e (wider g on))) (λ off. off) (cases_Bool (wholly_open c (closed c m v) g)))
    where
      wider : (g : ℕ) → wholly_open c (closed c m v) g ≡ true → wholly_open c m g ≡ true
      wider g on =
          let some : Bool = not (is_empty (c.of_generator g)) in
          let both = and_parts some (all_in (member (closed c m v).opened) (c.of_generator g)) on in
          and_from some (all_in (member m.opened) (c.of_generator g)) both.0 (all_in_more (member (closed c m v).opened) (member m.opened) was_open (c.of_generator g) both.1)
