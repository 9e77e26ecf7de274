-- Gathering the checks of some qubits. Assumes nothing.
use Rattle.std.proofs.Common.{◌≡◌, ℕ, zero, suc, ◌<◌, Bool, true, false, cond, ◌||◌, eqb, List, [], ◌∷◌, ◌++◌, length, get_or, sym, refl, ap, ◌∙◌, subst, arith}
use Rattle.std.specs.List.{All, list_any}
use Rattle.std.proofs.lemmas.List.Elements.{All-nil, All-cons, All-head, All-tail, All-push}
use Rattle.std.proofs.lemmas.Bool.{cond-true, cond-false, eq-eqb, ne_eqb, eqb-true, both_ways, or_right, or_parts, or_from}
use Rattle.patterns.specs.Sets.{◌⊕◌, has, Apart}
use Rattle.patterns.proofs.Lists.{has_here}
use Rattle.codes.specs.Layouts.{Layout, Sound}
use Rattle.flips.specs.Local.{with_new, gathered, local_checks}

pub has_get_d : (xs : List ℕ) (k : ℕ) → k < length xs → has xs (get_or xs k 0) ≡ true
has_get_d [] k h = absurd (omega arith)
has_get_d (x ∷ xs) zero h = has_here x xs
has_get_d (x ∷ xs) (suc k) h = or_right (eqb x (get_or xs k 0)) (has xs (get_or xs k 0)) (has_get_d xs k (omega arith))

-- the first of a list without repeats, and the others
pub has_first : (u : ℕ) (us : List ℕ) (w : ℕ) → Apart (u ∷ us) → has (u ∷ us) w ≡ (has us w ⊕ eqb u w)
has_first u us w a = part (eqb u w) (has us w) (λ e. ap (has us) (sym (eqb-true u w e)) ∙ a.0)
  where
    part : (x y : Bool) → (x ≡ true → y ≡ false) → (x || y) ≡ (y ⊕ x)
    part true true f = absurd (both_ways true (f refl) refl)
    part true false f = refl
    part false true f = refl
    part false false f = refl

-- what `contains` tells of a list
pub listed : (xs : List ℕ) (u : ℕ) → list_any (λ x. eqb x u) xs ≡ has xs u
listed [] u = refl
listed (x ∷ xs) u = ap (λ b. eqb x u || b) (listed xs u)

-- one more to gather, which is there already
pub gathered_old : (ds us rest all : List ℕ) (u : ℕ) → has ds u ≡ true → us ≡ u ∷ rest → gathered ds us ≡ all → gathered ds rest ≡ all
gathered_old ds us rest all u there e is = ap (λ l. gathered l rest) (sym (cond-true (has ds u) ds (ds ++ u ∷ []) there)) ∙ sym (ap (gathered ds) e) ∙ is

-- one more, which is not
pub gathered_new : (ds more us rest all : List ℕ) (u : ℕ) → has ds u ≡ false → more ≡ ds ++ u ∷ [] → us ≡ u ∷ rest → gathered ds us ≡ all → gathered more rest ≡ all
gathered_new ds more us rest all u fresh pushed e is =
    ap (λ l. gathered l rest) (pushed ∙ sym (cond-false (has ds u) ds (ds ++ u ∷ []) fresh)) ∙ sym (ap (gathered ds) e) ∙ is

-- what is gathered
apart_added : (ds : List ℕ) (u : ℕ) → Apart ds → has ds u ≡ false → Apart (ds ++ u ∷ [])
apart_added [] u a h = (refl, tt)
apart_added (d ∷ ds) u a h = let k = or_parts (eqb d u) (has ds u) h in (has_pushed ds u d a.0 (ne_eqb u d (λ e. both_ways (eqb d u) k.0 (eq-eqb d u (sym e)))), apart_added ds u a.1 k.1)
  where
    has_pushed : (xs : List ℕ) (u w : ℕ) → has xs w ≡ false → eqb u w ≡ false → has (xs ++ u ∷ []) w ≡ false
    has_pushed [] u w h k = or_from (eqb u w) false k refl
    has_pushed (x ∷ xs) u w h k = let q = or_parts (eqb x w) (has xs w) h in or_from (eqb x w) (has (xs ++ u ∷ []) w) q.0 (has_pushed xs u w q.1 k)

pub apart_gathered : (ds us : List ℕ) → Apart ds → Apart (gathered ds us)
apart_gathered ds [] a = a
apart_gathered ds (u ∷ us) a = apart_gathered (with_new ds u) us (part (has ds u) refl)
  where
    part : (b : Bool) → has ds u ≡ b → Apart (cond b ds (ds ++ u ∷ []))
    part true e = a
    part false e = apart_added ds u a e

pub all_gathered : (P : ℕ → Type 0) (ds us : List ℕ) → All P ds → All P us → All P (gathered ds us)
all_gathered P ds [] a h = a
all_gathered P ds (u ∷ us) a h = all_gathered P (with_new ds u) us (part (has ds u)) (All-tail P u us h)
  where
    part : (b : Bool) → All P (cond b ds (ds ++ u ∷ []))
    part true = a
    part false = All-push P ds u a (All-head P u us h)

-- what is not gathered was in neither
not_pushed : (xs : List ℕ) (u w : ℕ) → has (xs ++ u ∷ []) w ≡ false → (has xs w ≡ false) × (eqb u w ≡ false)
not_pushed [] u w h = (refl, (or_parts (eqb u w) false h).0)
not_pushed (x ∷ xs) u w h = let q = or_parts (eqb x w) (has (xs ++ u ∷ []) w) h in let r = not_pushed xs u w q.1 in (or_from (eqb x w) (has xs w) q.0 r.0, r.1)

pub not_gathered : (ds us : List ℕ) (w : ℕ) → has (gathered ds us) w ≡ false → (has ds w ≡ false) × (has us w ≡ false)
not_gathered ds [] w h = (h, refl)
not_gathered ds (u ∷ us) w h =
    let r = not_gathered (with_new ds u) us w h in
    let q = part (has ds u) refl r.0 in
    (q.0, or_from (eqb u w) (has us w) q.1 r.1)
  where
    part : (b : Bool) → has ds u ≡ b → has (cond b ds (ds ++ u ∷ [])) w ≡ false → (has ds w ≡ false) × (eqb u w ≡ false)
    part true e h = (h, ne_eqb u w (λ z. both_ways (has ds w) h (ap (has ds) (sym z) ∙ e)))
    part false e h = not_pushed ds u w h

pub local_apart : (c : Layout) (ds vs : List ℕ) → Apart ds → Apart (local_checks c ds vs)
local_apart c ds [] a = a
local_apart c ds (v ∷ vs) a = local_apart c (gathered ds (c.checks_of v)) vs (apart_gathered ds (c.checks_of v) a)

pub all_by_has : (P : ℕ → Type 0) (us : List ℕ) → ((u : ℕ) → has us u ≡ true → P u) → All P us
all_by_has P [] f = All-nil P
all_by_has P (u ∷ us) f = All-cons P u us (f u (has_here u us)) (all_by_has P us (λ x k. f x (or_right (eqb u x) (has us x) k)))

pub local_within : (c : Layout) → Sound c → (ds vs : List ℕ) → All (λ u. u < c.checks) ds → All (λ v. v < c.qubits) vs → All (λ u. u < c.checks) (local_checks c ds vs)
local_within c sound ds [] a h = a
local_within c sound ds (v ∷ vs) a h =
    let first = All-head (λ w. w < c.qubits) v vs h in
    let rest = All-tail (λ w. w < c.qubits) v vs h in
    local_within c sound (gathered ds (c.checks_of v)) vs (all_gathered (λ u. u < c.checks) ds (c.checks_of v) a (all_by_has (λ u. u < c.checks) (c.checks_of v) (λ u k. sound.by_check.column_within v u first k))) rest

pub local_meets : (c : Layout) (ds vs : List ℕ) (u : ℕ) → has (local_checks c ds vs) u ≡ false → (has ds u ≡ false) × All (λ v. has (c.checks_of v) u ≡ false) vs
local_meets c ds [] u h = (h, All-nil (λ v. has (c.checks_of v) u ≡ false))
local_meets c ds (v ∷ vs) u h =
    let rest = local_meets c (gathered ds (c.checks_of v)) vs u h in
    let both = not_gathered ds (c.checks_of v) u rest.0 in
    (both.0, All-cons (λ w. has (c.checks_of w) u ≡ false) v vs both.1 rest.1)

-- what the local checks are known by
pub record Known (c : Layout) (xs ds : List ℕ) : Type 0 where
  pub apart : Apart ds
  pub checks : All (λ u. u < c.checks) ds
  pub meets : (u : ℕ) → has ds u ≡ false → All (λ v. has (c.checks_of v) u ≡ false) xs

pub known : (c : Layout) → Sound c → (xs ds : List ℕ) → All (λ v. v < c.qubits) xs → ds ≡ local_checks c [] xs → Known c xs ds
known c sound xs ds within e =
    subst (Known c xs) (sym e) (record {
      apart = local_apart c [] xs tt;
      checks = local_within c sound [] xs (All-nil (λ u. u < c.checks)) within;
      meets = λ u h. (local_meets c [] xs u h).1;
    })
