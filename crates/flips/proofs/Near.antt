-- What the sets of some qubits leave of the checks near them, and of all checks. Assumes nothing.
use Rattle.std.proofs.Common.{◌≡◌, ℕ, ◌+◌, ◌*◌, ◌/◌, ◌%◌, ◌^◌, ◌<◌, ◌≤◌, Bool, true, false, not, ◌&&◌, ◌||◌, eqb, List, [], ◌∷◌, length, get_or, sym, refl, ap, ◌∙◌, subst, ap₂, ⊎_elim, arith}
use lib.Count.{ones}
use Rattle.std.specs.List.{All}
use Rattle.std.proofs.lemmas.List.Elements.{All-head, All-tail, All-get_or}
use Rattle.std.proofs.lemmas.Bool.{cases_Bool, both_ways, eqb-true, and_right}
use Rattle.patterns.specs.Sets.{Set, ◌⊕◌, has, parity, Apart, tally}
use Rattle.patterns.specs.Patterns.{bit, member, added, Well}
use Rattle.patterns.proofs.Sums.{plus_zero, plus_assoc}
use Rattle.patterns.proofs.Lists.{parity_swap, parity_same}
use Rattle.patterns.proofs.Added.{member_added, well_added}
use Rattle.patterns.proofs.Weighed.{tally_same, tally_split, ones_tally, weight_well}
use Rattle.codes.specs.Layouts.{Layout, Sound}
use Rattle.best_sets.specs.Walk.{changed_by, weighed}
use Rattle.best_sets.specs.Rising.{Rising}
use Rattle.best_sets.proofs.Walks.{pick, lefts, all_picked}
use Rattle.flips.specs.Local.{bit_at, at, Marks, Rows}
use Rattle.flips.specs.Flips.{left_by}
use Rattle.flips.proofs.Tallied.{counted, tally_at, within_and_off}
use Rattle.flips.proofs.Marked.{marks_same, marks_changed}
use Rattle.flips.proofs.Ordered.{above_none}

-- ---- what marks weigh

word_bits : (ws : List ℕ) (i : ℕ) → get_or ws i 0 < 2 ^ 64 → ones (get_or ws i 0) ≡ tally 64 (λ k. bit_at ws (k + 64 * i))
unfolding bit_at
word_bits ws i h =
    ones_tally 64 (get_or ws i 0) h
    ∙ tally_same 64 (bit (get_or ws i 0)) (λ k. bit_at ws (k + 64 * i)) (λ k l.
    let d : i ≡ (k + 64 * i) / 64 = omega arith in
    let r : k ≡ (k + 64 * i) % 64 = omega arith in
    ap₂ (λ x y. bit (get_or ws x 0) y) d r)

three_parts : (n : ℕ) (s : Set) → tally n s + tally n (λ k. s (k + n)) + tally n (λ k. s ((k + n) + n)) ≡ tally ((n + n) + n) s
three_parts n s = omega (arith, tally_split n (n + n) s, tally_split n n (λ k. s (k + n)))

pub marks_weigh : (ds : List ℕ) (p : Set) (ws : List ℕ) → length ds ≤ 144 → Marks ds p ws → weighed ws ≡ counted p ds
marks_weigh ds p ws h m =
    let word : (i : ℕ) → i < 3 → ones (get_or ws i 0) ≡ tally 64 (λ k. bit_at ws (k + 64 * i)) = λ i l. word_bits ws i (All-get_or (λ w. w < 2 ^ 64) ws i 0 (let e = m.three in omega arith) m.words) in
    let s : Set = bit_at ws in
    ap₂ ◌+◌
    (ap₂ ◌+◌ (word 0 (omega arith) ∙ tally_same 64 (λ k. s (k + 64 * 0)) s (λ k l. let e : k + 64 * 0 ≡ k = omega arith in ap s e)) (word 1 (omega arith)))
    (word 2 (omega arith) ∙ tally_same 64 (λ k. s (k + 64 * 2)) (λ k. s ((k + 64) + 64)) (λ k l. let e : k + 64 * 2 ≡ (k + 64) + 64 = omega arith in ap s e))
    ∙ three_parts 64 s
    ∙ tally_same 192 s (at ds p) (λ k l. m.each k)
    ∙ tally_at 192 ds p (omega arith)

-- what the qubits listed change
abbrev pub toggles : Layout → List ℕ → ℕ → Bool
toggles c s u = parity (λ v. has (c.checks_of v) u) s

pub marks_left : (c : Layout) (ds : List ℕ) (p : Set) (xs : List ℕ) (rows : List (List ℕ)) (ws : List ℕ) (b : List Bool)
    → Rows c ds xs rows → Marks ds p ws → Marks ds (λ u. p u ⊕ toggles c (pick b xs) u) (lefts rows ws b)
marks_left c ds p xs rows ws [] r m = marks_same ds p (λ u. p u ⊕ false) ws (λ u h. sym (plus_zero (p u))) m
marks_left c ds p [] [] ws (x ∷ b) r m = marks_same ds p (λ u. p u ⊕ false) ws (λ u h. sym (plus_zero (p u))) m
marks_left c ds p [] (y ∷ rows) ws (x ∷ b) r m = absurd r
marks_left c ds p (y ∷ xs) [] ws (x ∷ b) r m = absurd r
marks_left c ds p (y ∷ xs) (z ∷ rows) ws (true ∷ b) r m =
    marks_same ds (λ u. (p u ⊕ has (c.checks_of y) u) ⊕ toggles c (pick b xs) u) (λ u. p u ⊕ (has (c.checks_of y) u ⊕ toggles c (pick b xs) u)) (lefts rows (changed_by ws z) b)
    (λ u h. plus_assoc (p u) (has (c.checks_of y) u) (toggles c (pick b xs) u))
    (marks_left c ds (λ u. p u ⊕ has (c.checks_of y) u) xs rows (changed_by ws z) b r.1 (marks_changed ds p (has (c.checks_of y)) ws z m r.0))
marks_left c ds p (y ∷ xs) (z ∷ rows) ws (false ∷ b) r m = marks_left c ds p xs rows ws b r.1 m

-- the numbers that are picked of a rising list stand apart
pub apart_picked : (b : List Bool) (xs : List ℕ) → Rising xs → Apart (pick b xs)
apart_picked [] xs h = tt
apart_picked (b ∷ bs) [] h = tt
apart_picked (true ∷ bs) (x ∷ xs) h = (above_none x (pick bs xs) (all_picked (λ y. x < y) bs xs h.0), apart_picked bs xs h.1)
apart_picked (false ∷ bs) (x ∷ xs) h = apart_picked bs xs h.1

pub all_has : (P : ℕ → Type 0) (s : List ℕ) (v : ℕ) → All P s → has s v ≡ true → P v
all_has P [] v h k = absurd (both_ways false refl k)
all_has P (y ∷ s) v h k = ⊎_elim (λ e. subst P (eqb-true y v e) (All-head P y s h)) (λ e. all_has P s v (All-tail P y s h) (sym (ap (λ t. t || has s v) e) ∙ k)) (cases_Bool (eqb y v))

-- the syndrome of a set, told from its qubits
pub syndrome_by_qubits : (c : Layout) → Sound c → (s : List ℕ) → Apart s → All (λ v. v < c.qubits) s → (u : ℕ) → u < c.checks → parity (has s) (c.of_check u) ≡ toggles c s u
syndrome_by_qubits c sound s a within u h =
    parity_swap s (c.of_check u) a (sound.by_check.row_apart u h)
    ∙ parity_same (has (c.of_check u)) (λ v. has (c.checks_of v) u) s (λ v k. sound.by_check.same u v h (all_has (λ v. v < c.qubits) s v within k))

-- The local problem of some rising qubits xs: ds are the checks that meet them, start what remains of these, rows what each qubit changes.
pub record Local (c : Layout) (remaining : Set) (xs ds : List ℕ) (start : List ℕ) (rows : List (List ℕ)) : Type 0 where
  pub rises : Rising xs
  pub within : All (λ v. v < c.qubits) xs
  pub apart : Apart ds
  pub checks : All (λ u. u < c.checks) ds
  pub few : length ds ≤ 144
  pub meets : (u : ℕ) → has ds u ≡ false → All (λ v. has (c.checks_of v) u ≡ false) xs
  pub starts : Marks ds remaining start
  pub by_row : Rows c ds xs rows

none_toggled : (c : Layout) (s : List ℕ) (u : ℕ) → All (λ v. has (c.checks_of v) u ≡ false) s → toggles c s u ≡ false
none_toggled c [] u h = refl
none_toggled c (v ∷ s) u h = let P : ℕ → Type 0 = λ w. has (c.checks_of w) u ≡ false in ap₂ ◌⊕◌ (All-head P v s h) (none_toggled c s u (All-tail P v s h))

-- the weight left, as a number of checks
left_tally : (c : Layout) (r f : List ℕ) → Well c.checks r → left_by c r f ≡ tally c.checks (λ u. member r u ⊕ parity (has f) (c.of_check u))
left_tally c r f well =
    let changes : Set = λ u. parity (has f) (c.of_check u) in
    weight_well c.checks (added c.checks r changes) (well_added c.checks r changes well)
    ∙ tally_same c.checks (member (added c.checks r changes)) (λ u. member r u ⊕ changes u) (λ u h. member_added c.checks r changes well u h)

-- the weight that is not near: no set of the qubits changes it
abbrev pub far : Layout → List ℕ → List ℕ → ℕ
far c r ds = tally c.checks (λ u. member r u && not (has ds u))

-- The weight left over all checks is what is left of the local ones, and what no set of the qubits changes.
pub local_weight : (c : Layout) → Sound c → (r xs ds start : List ℕ) (rows : List (List ℕ)) → Well c.checks r → Local c (member r) xs ds start rows
    → (b : List Bool) → left_by c r (pick b xs) ≡ far c r ds + weighed (lefts rows start b)
local_weight c sound r xs ds start rows well l b =
    let s = pick b xs in
    let val : Set = λ u. member r u ⊕ toggles c s u in
    let inside = all_picked (λ v. v < c.qubits) b xs l.within in
    let told = tally_same c.checks (λ u. member r u ⊕ parity (has s) (c.of_check u)) val (λ u h. ap (λ t. member r u ⊕ t) (syndrome_by_qubits c sound s (apart_picked b xs l.rises) inside u h)) in
    let split = within_and_off c.checks ds val l.apart l.checks in
    let off = tally_same c.checks (λ u. val u && not (has ds u)) (λ u. member r u && not (has ds u)) (λ u h. outside u (has ds u) refl) in
    let weighs = marks_weigh ds val (lefts rows start b) l.few (marks_left c ds (member r) xs rows start b l.by_row l.starts) in
    omega (arith, left_tally c r s well, told, split, off, weighs)
  where
    outside : (u : ℕ) (t : Bool) → has ds u ≡ t → ((member r u ⊕ toggles c (pick b xs) u) && not t) ≡ (member r u && not t)
    outside u true e = and_right (member r u ⊕ toggles c (pick b xs) u) false refl ∙ sym (and_right (member r u) false refl)
    outside u false e = ap (λ x. x && true) (ap (λ t. member r u ⊕ t) (none_toggled c (pick b xs) u (all_picked (λ v. has (c.checks_of v) u ≡ false) b xs (l.meets u e))) ∙ plus_zero (member r u))
