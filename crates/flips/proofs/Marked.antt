-- Sets of local checks as bits of three words. Assumes nothing.
use Rattle.std.proofs.Common.{◌≡◌, ℕ, zero, suc, ◌+◌, ◌*◌, ◌/◌, ◌%◌, ◌^◌, ◌<◌, ◌≤◌, Bool, true, false, not, cond, ◌&&◌, ◌||◌, eqb, ltb, List, [], ◌∷◌, ◌++◌, map, length, get_or, take, replicate, Some, None, sym, refl, ap, ◌∙◌, ap₂, ⊎_elim, arith, lit<, length-set, get_or-set_other, get_or-set_same}
use lib.Bits.{bit_xor, xor_lt}
use Rattle.std.specs.List.{All, position, prefix_len}
use Rattle.std.proofs.lemmas.Nat.{pow_below}
use Rattle.std.proofs.lemmas.List.{get_or_past, take_more, length-take-le}
use Rattle.std.proofs.lemmas.List.Elements.{All-nil, All-cons, All-get_or, All-replicate, All-set}
use Rattle.std.proofs.lemmas.Bool.{lt-ltb, le-ltb, cases_lt, eq-eqb, ne_eqb, eqb-true, eqb-false, cases_Bool, cases_eq, both_ways, or_right}
use Rattle.patterns.specs.Sets.{Set, ◌⊕◌, has, Apart}
use Rattle.patterns.specs.Patterns.{bit}
use Rattle.patterns.proofs.Sums.{plus_zero, plus_comm}
use Rattle.patterns.proofs.Lists.{has_here}
use Rattle.patterns.proofs.Bits.{bit_of_xor, bit_pow}
use Rattle.best_sets.specs.Walk.{changed_by}
use Rattle.flips.specs.Local.{bit_at, at, Marks, marked, one_if}
use Rattle.flips.proofs.Gathered.{has_get_d, has_first}

pub at_add : (ds : List ℕ) (p q : Set) (j : ℕ) → at ds (λ u. p u ⊕ q u) j ≡ (at ds p j ⊕ at ds q j)
at_add [] p q j = refl
at_add (d ∷ ds) p q zero = refl
at_add (d ∷ ds) p q (suc j) = at_add ds p q j

pub at_same : (ds : List ℕ) (p q : Set) (j : ℕ) → ((u : ℕ) → has ds u ≡ true → p u ≡ q u) → at ds p j ≡ at ds q j
at_same [] p q j h = refl
at_same (d ∷ ds) p q zero h = h d (has_here d ds)
at_same (d ∷ ds) p q (suc j) h = at_same ds p q j (λ u k. h u (or_right (eqb d u) (has ds u) k))

pub marks_same : (ds : List ℕ) (p q : Set) (ws : List ℕ) → ((u : ℕ) → has ds u ≡ true → p u ≡ q u) → Marks ds p ws → Marks ds q ws
marks_same ds p q ws h m = record { three = m.three; words = m.words; each = λ j. m.each j ∙ at_same ds p q j h }

at_map : (f : ℕ → ℕ) (ds : List ℕ) (p : Set) (j : ℕ) → at (map f ds) p j ≡ at ds (λ u. p (f u)) j
at_map f [] p j = refl
at_map f (d ∷ ds) p zero = refl
at_map f (d ∷ ds) p (suc j) = at_map f ds p j

one_of : (b : Bool) → eqb 1 (one_if b) ≡ b
one_of true = refl
one_of false = refl

-- the ones among bits that are written out as numbers
pub marks_written : (ds : List ℕ) (p : Set) (ws : List ℕ) → Marks (map (λ u. one_if (p u)) ds) (eqb 1) ws → Marks ds p ws
marks_written ds p ws m = record {
  three = m.three;
  words = m.words;
  each = λ j. m.each j ∙ at_map (λ u. one_if (p u)) ds (eqb 1) j ∙ at_same ds (λ u. eqb 1 (one_if (p u))) p j (λ u _. one_of (p u));
}

changed_at : (a b : List ℕ) → length a ≡ 3 → length b ≡ 3 → (i : ℕ) → get_or (changed_by a b) i 0 ≡ bit_xor (get_or a i 0) (get_or b i 0)
changed_at a b ha hb zero = refl
changed_at a b ha hb (suc zero) = refl
changed_at a b ha hb (suc (suc zero)) = refl
changed_at a b ha hb (suc (suc (suc i))) = sym (ap₂ bit_xor (get_or_past a (suc (suc (suc i))) 0 (omega arith)) (get_or_past b (suc (suc (suc i))) 0 (omega arith)))

-- three words
below : (a b c : ℕ) → a < 2 ^ 64 → b < 2 ^ 64 → c < 2 ^ 64 → All (λ w. w < 2 ^ 64) (a ∷ b ∷ c ∷ [])
below a b c x y z =
    let P : ℕ → Type 0 = λ w. w < 2 ^ 64 in
    All-cons P a (b ∷ c ∷ []) x (All-cons P b (c ∷ []) y (All-cons P c [] z (All-nil P)))

-- a change of marks
pub marks_changed : (ds : List ℕ) (p q : Set) (a b : List ℕ) → Marks ds p a → Marks ds q b → Marks ds (λ u. p u ⊕ q u) (changed_by a b)
unfolding bit_at
marks_changed ds p q a b m n =
    let word : (i : ℕ) → i < 3 → bit_xor (get_or a i 0) (get_or b i 0) < 2 ^ 64 = λ i h.
    xor_lt 64 (get_or a i 0) (get_or b i 0) (All-get_or (λ w. w < 2 ^ 64) a i 0 (let e = m.three in omega arith) m.words) (All-get_or (λ w. w < 2 ^ 64) b i 0 (let e = n.three in omega arith) n.words) in
    record {
      three = refl;
      words = below _ _ _ (word 0 (omega arith)) (word 1 (omega arith)) (word 2 (omega arith));
      each = λ j.
          ap (λ w. bit w (j % 64)) (changed_at a b m.three n.three (j / 64))
          ∙ bit_of_xor (get_or a (j / 64) 0) (get_or b (j / 64) 0) (j % 64)
          ∙ ap₂ ◌⊕◌ (m.each j) (n.each j)
          ∙ sym (at_add ds p q j);
    }

-- a place changed
bits_marked : (ws : List ℕ) (k j : ℕ) → k < 64 * length ws → bit_at (marked ws k) j ≡ (eqb k j ⊕ bit_at ws j)
unfolding bit_at marked
bits_marked ws k j h =
    ⊎_elim
    (λ same.
    let within : k / 64 < length ws = omega arith in
    let old : ℕ = get_or ws (k / 64) 0 in
    ap (λ n. bit (get_or (marked ws k) n 0) (j % 64)) same
    ∙ ap (λ n. bit n (j % 64)) (get_or-set_same ws (k / 64) (bit_xor old (2 ^ (k % 64))) 0 within)
    ∙ bit_of_xor old (2 ^ (k % 64)) (j % 64)
    ∙ plus_comm (bit old (j % 64)) (bit (2 ^ (k % 64)) (j % 64))
    ∙ ap₂ ◌⊕◌
    (bit_pow (k % 64) (j % 64)
    ∙ ⊎_elim (λ e. e ∙ sym (eq-eqb k j (omega (arith, eqb-true (k % 64) (j % 64) e)))) (λ e. e ∙ sym (ne_eqb k j (λ z. eqb-false (k % 64) (j % 64) e (ap (λ n. n % 64) z)))) (cases_Bool (eqb (k % 64) (j % 64))))
    (ap (λ n. bit (get_or ws n 0) (j % 64)) (sym same)))
    (λ apart.
    ap (λ n. bit n (j % 64)) (get_or-set_other ws (k / 64) (j / 64) (bit_xor (get_or ws (k / 64) 0) (2 ^ (k % 64))) 0 apart)
    ∙ ap (λ b. b ⊕ bit (get_or ws (j / 64) 0) (j % 64)) (sym (ne_eqb k j (λ z. apart (ap (λ n. n / 64) (sym z))))))
    (cases_eq (j / 64) (k / 64))

-- what a change of place j leaves of the form of words
words_marked : (ws : List ℕ) (j : ℕ) → length ws ≡ 3 → j < 192 → All (λ w. w < 2 ^ 64) ws → All (λ w. w < 2 ^ 64) (marked ws j)
unfolding marked
words_marked ws j three h all =
    All-set (λ w. w < 2 ^ 64) ws (j / 64) (bit_xor (get_or ws (j / 64) 0) (2 ^ (j % 64)))
    (xor_lt 64 (get_or ws (j / 64) 0) (2 ^ (j % 64)) (All-get_or (λ w. w < 2 ^ 64) ws (j / 64) 0 (omega arith) all) (pow_below (j % 64) 64 (omega arith))) all

length_marked : (ws : List ℕ) (j : ℕ) → length (marked ws j) ≡ length ws
unfolding marked
length_marked ws j = length-set ws (j / 64) (bit_xor (get_or ws (j / 64) 0) (2 ^ (j % 64)))

eqb_suc : (a b : ℕ) → eqb a b ≡ eqb (suc a) (suc b)
eqb_suc a b = ⊎_elim (λ e. eq-eqb a b e ∙ sym (eq-eqb (suc a) (suc b) (ap suc e))) (λ e. ne_eqb a b e ∙ sym (ne_eqb (suc a) (suc b) (λ z. e (omega arith)))) (cases_eq a b)

at_none : (ds : List ℕ) (p : Set) (j : ℕ) → ((u : ℕ) → has ds u ≡ true → p u ≡ false) → at ds p j ≡ false
at_none [] p j h = refl
at_none (d ∷ ds) p zero h = h d (has_here d ds)
at_none (d ∷ ds) p (suc j) h = at_none ds p j (λ u k. h u (or_right (eqb d u) (has ds u) k))

pub marks_none : (ds : List ℕ) (p : Set) → ((u : ℕ) → has ds u ≡ true → p u ≡ false) → Marks ds p (replicate 3 0)
unfolding bit_at
marks_none ds p h = record {
  three = refl;
  words = All-replicate (λ w. w < 2 ^ 64) 3 0 (lit< tt);
  each = λ j. zero_bit (j / 64) (j % 64) ∙ sym (at_none ds p j h);
}
  where
    zero_div : (i : ℕ) → bit 0 i ≡ false
    zero_div i = let e : 0 / 2 ^ i % 2 ≡ 0 = omega arith in ap (λ n. eqb n 1) e

    zero_bit : (i k : ℕ) → bit (get_or (replicate 3 0) i 0) k ≡ false
    zero_bit zero k = zero_div k
    zero_bit (suc zero) k = zero_div k
    zero_bit (suc (suc zero)) k = zero_div k
    zero_bit (suc (suc (suc i))) k = zero_div k

at_one : (ds : List ℕ) (j i : ℕ) → Apart ds → j < length ds → at ds (eqb (get_or ds j 0)) i ≡ eqb j i
at_one [] j i a h = absurd (omega arith)
at_one (d ∷ ds) zero zero a h = eq-eqb d d refl ∙ sym (eq-eqb 0 0 refl)
at_one (d ∷ ds) zero (suc i) a h = at_none ds (eqb d) i (λ u k. ne_eqb d u (λ e. both_ways (has ds u) (ap (has ds) (sym e) ∙ a.0) k)) ∙ sym (ne_eqb 0 (suc i) (λ e. omega arith))
at_one (d ∷ ds) (suc j) zero a h = ne_eqb (get_or ds j 0) d (λ e. both_ways (has ds d) a.0 (ap (has ds) (sym e) ∙ has_get_d ds j (omega arith))) ∙ sym (ne_eqb (suc j) 0 (λ e. omega arith))
at_one (d ∷ ds) (suc j) (suc i) a h = at_one ds j i a.1 (omega arith) ∙ eqb_suc j i

pub marks_toggled : (ds : List ℕ) (p : Set) (ws : List ℕ) (j u : ℕ) → Apart ds → length ds ≤ 144 → j < length ds → get_or ds j 0 ≡ u → Marks ds p ws → Marks ds (λ w. p w ⊕ eqb u w) (marked ws j)
marks_toggled ds p ws j u a few h is m =
    let three = m.three in
    record {
      three = length_marked ws j ∙ three;
      words = words_marked ws j three (omega arith) m.words;
      each = λ i.
          bits_marked ws j i (omega arith)
          ∙ plus_comm (eqb j i) (bit_at ws i)
          ∙ ap₂ ◌⊕◌ (m.each i) (sym (at_one ds j i a h) ∙ ap (λ x. at ds (eqb x) i) is)
          ∙ sym (at_add ds p (eqb u) i);
    }

-- a place more
at_push : (ds : List ℕ) (d : ℕ) (p : Set) (i : ℕ) → at (ds ++ d ∷ []) p i ≡ (at ds p i ⊕ (eqb (length ds) i && p d))
at_push [] d p zero = sym (ap (λ b. b && p d) (eq-eqb 0 0 refl))
at_push [] d p (suc i) = sym (ap (λ b. b && p d) (ne_eqb 0 (suc i) (λ e. omega arith)))
at_push (x ∷ ds) d p zero = sym (ap (λ b. p x ⊕ (b && p d)) (ne_eqb (suc (length ds)) 0 (λ e. omega arith)) ∙ plus_zero (p x))
at_push (x ∷ ds) d p (suc i) = at_push ds d p i ∙ ap (λ b. at ds p i ⊕ (b && p d)) (eqb_suc (length ds) i)

pub marks_next : (ds : List ℕ) (p : Set) (ws : List ℕ) (j : ℕ) → j < length ds → length ds ≤ 144 → true ≡ p (get_or ds j 0) → Marks (take j ds) p ws → Marks (take (j + 1) ds) p (marked ws j)
marks_next ds p ws j h few on m =
    let three = m.three in
    let long : length (take j ds) ≡ j = length-take-le j ds (omega arith) in
    record {
      three = length_marked ws j ∙ three;
      words = words_marked ws j three (omega arith) m.words;
      each = λ i.
          bits_marked ws j i (omega arith)
          ∙ plus_comm (eqb j i) (bit_at ws i)
          ∙ ap₂ ◌⊕◌ (m.each i) (ap (λ n. eqb n i) (sym long) ∙ sym (and_on (eqb (length (take j ds)) i)) ∙ ap (λ b. eqb (length (take j ds)) i && b) on)
          ∙ sym (ap (λ l. at l p i) (take_more ds j 0 h) ∙ at_push (take j ds) (get_or ds j 0) p i);
    }
  where
    and_on : (b : Bool) → (b && true) ≡ b
    and_on true = refl
    and_on false = refl

pub marks_skip : (ds : List ℕ) (p : Set) (ws : List ℕ) (j : ℕ) → j < length ds → false ≡ p (get_or ds j 0) → Marks (take j ds) p ws → Marks (take (j + 1) ds) p ws
marks_skip ds p ws j h off m = record {
  three = m.three;
  words = m.words;
  each = λ i. m.each i ∙ sym (ap (λ l. at l p i) (take_more ds j 0 h) ∙ at_push (take j ds) (get_or ds j 0) p i ∙ ap (λ b. at (take j ds) p i ⊕ (eqb (length (take j ds)) i && b)) (sym off) ∙ ap (λ b. at (take j ds) p i ⊕ b) (and_off (eqb (length (take j ds)) i)) ∙ plus_zero (at (take j ds) p i));
}
  where
    and_off : (b : Bool) → (b && false) ≡ false
    and_off true = refl
    and_off false = refl

-- ---- the marks of a row, where some of it is left to look at

-- nothing of the row is marked yet
pub none_looked_at : (ds row : List ℕ) → Marks ds (λ w. has row w ⊕ has row w) (replicate 3 0)
none_looked_at ds row = marks_none ds (λ w. has row w ⊕ has row w) (λ w _. twice (has row w))
  where
    twice : (b : Bool) → (b ⊕ b) ≡ false
    twice true = refl
    twice false = refl

-- one of the row that stands among the list
pub next_marked : (ds row us ws : List ℕ) (j u : ℕ) → Apart ds → length ds ≤ 144 → Apart (u ∷ us) → j < length ds → get_or ds j 0 ≡ u
    → Marks ds (λ w. has row w ⊕ has (u ∷ us) w) ws → Marks ds (λ w. has row w ⊕ has us w) (marked ws j)
next_marked ds row us ws j u a few b h is m =
    marks_same ds (λ w. (has row w ⊕ has (u ∷ us) w) ⊕ eqb u w) (λ w. has row w ⊕ has us w) (marked ws j)
    (λ w _. ap (λ t. (has row w ⊕ t) ⊕ eqb u w) (has_first u us w b) ∙ taken_out (has row w) (has us w) (eqb u w))
    (marks_toggled ds (λ w. has row w ⊕ has (u ∷ us) w) ws j u a few h is m)
  where
    taken_out : (x y z : Bool) → ((x ⊕ (y ⊕ z)) ⊕ z) ≡ (x ⊕ y)
    taken_out true true true = refl
    taken_out true true false = refl
    taken_out true false true = refl
    taken_out true false false = refl
    taken_out false true true = refl
    taken_out false true false = refl
    taken_out false false true = refl
    taken_out false false false = refl

-- one that does not
pub next_passed : (ds row us ws : List ℕ) (u : ℕ) → Apart (u ∷ us) → has ds u ≡ false → Marks ds (λ w. has row w ⊕ has (u ∷ us) w) ws → Marks ds (λ w. has row w ⊕ has us w) ws
next_passed ds row us ws u b off m =
    marks_same ds (λ w. has row w ⊕ has (u ∷ us) w) (λ w. has row w ⊕ has us w) ws
    (λ w h. ap (λ t. has row w ⊕ t) (has_first u us w b ∙ ap (λ t. has us w ⊕ t) (ne_eqb u w (λ e. both_ways (has ds w) (ap (has ds) (sym e) ∙ off) h)) ∙ plus_zero (has us w)))
    m

-- ---- where a number stands in a list

-- the place of a number is within the list if the list has it
placed : (xs : List ℕ) (u : ℕ) → has xs u ≡ ltb (prefix_len (λ x. not (eqb x u)) xs) (length xs)
placed [] u = sym (le-ltb 0 0 (omega arith))
placed (x ∷ xs) u = part (eqb x u) (placed xs u)
  where
    n : ℕ
    n = prefix_len (λ x. not (eqb x u)) xs

    part : (b : Bool) → has xs u ≡ ltb n (length xs) → (b || has xs u) ≡ ltb (cond (not b) (1 + n) 0) (suc (length xs))
    part true h = sym (lt-ltb 0 (suc (length xs)) (omega arith))
    part false e = e ∙ ⊎_elim (λ (h : n < length xs). lt-ltb n (length xs) h ∙ sym (lt-ltb (1 + n) (suc (length xs)) (omega arith))) (λ (h : length xs ≤ n). le-ltb n (length xs) h ∙ sym (le-ltb (1 + n) (suc (length xs)) (omega arith))) (cases_lt n (length xs))

-- no place is found for a number that the list has not
pub no_place : (xs : List ℕ) (u : ℕ) → position (λ x. eqb x u) xs ≡ None → has xs u ≡ false
no_place xs u e = placed xs u ∙ part (ltb n (length xs)) e
  where
    n : ℕ
    n = prefix_len (λ x. not (eqb x u)) xs

    part : (b : Bool) → cond b (Some n) None ≡ None → b ≡ false
    part true h = absurd (cc)
    part false h = refl
