-- Lists made from a test, and relations that each side tells of the other. Assumes nothing.
use Rattle.std.proofs.Common.{◌≡◌, ℕ, zero, suc, ◌+◌, ◌<◌, ◌≤◌, true, ◌&&◌, ltb, leb, List, [], ◌∷◌, map, length, Some, None, sym, refl, ap, ◌∙◌, subst, ap₂, ⊎_elim, arith}
use Rattle.std.specs.List.{range_with_len}
use Rattle.std.proofs.lemmas.List.FromFn.{length-map-range_with_len, get_or-map-range_with_len}
use Rattle.std.proofs.lemmas.Bool.{lt-ltb, leb-true, ltb-true, cond-true, cond-false, cases_Bool}
use Rattle.patterns.specs.Sets.{Set, has, Apart, members, tally}
use Rattle.patterns.proofs.Lists.{has_members, members_within, members_apart, members_same, all_below_at, all_below_from}
use Rattle.patterns.proofs.Weighed.{length_members}
use Rattle.matrices.specs.Relations.{Paired, size_at, listed, tabled, transposed, short}
use Rattle.matrices.specs.Rows.{few}

pub map_counting_same : {X : Type 0} (f g : ℕ → X) (a n : ℕ) → ((k : ℕ) → k < a + n → f k ≡ g k) → map f (range_with_len a n) ≡ map g (range_with_len a n)
map_counting_same f g a zero h = refl
map_counting_same f g a (suc n) h = ap₂ ◌∷◌ (h a (omega arith)) (map_counting_same f g (a + 1) n (λ k l. h k (omega arith)))

pub tabled_same : (m n : ℕ) (s t : ℕ → Set) → ((u v : ℕ) → u < m → v < n → s u v ≡ t u v) → tabled m n s ≡ tabled m n t
tabled_same m n s t h =
    map_counting_same (λ u. members n (s u)) (λ u. members n (t u)) 0 m (λ u l. members_same n (s u) (t u) (λ v k. h u v (omega arith) k))

pub length_tabled : (m n : ℕ) (s : ℕ → Set) → length (tabled m n s) ≡ m
length_tabled m n s = length-map-range_with_len (λ u. members n (s u)) 0 m

pub listed_tabled : (m n : ℕ) (s : ℕ → Set) (u : ℕ) → u < m → listed (tabled m n s) u ≡ members n (s u)
listed_tabled m n s u h = get_or-map-range_with_len (λ u. members n (s u)) 0 m u u [] h (omega arith)

pub short_tabled : (most m n : ℕ) (s : ℕ → Set) → few most m n s ≡ true → short most (tabled m n s) ≡ true
short_tabled most m n s h =
    all_below_from (length (tabled m n s)) (λ u. leb (length (listed (tabled m n s) u)) most)
    (λ u l.
    let l' : u < m = omega (arith, length_tabled m n s) in
    ap (λ k. leb k most) (ap length (listed_tabled m n s u l') ∙ length_members n (s u)) ∙ all_below_at m (λ u. leb (tally n (s u)) most) h u l')

-- the columns of a table tell its rows
pub transposed_tabled : (m n : ℕ) (s : ℕ → Set) → transposed m (tabled n m (λ v u. s u v)) ≡ tabled m n s
transposed_tabled m n s =
    ap (λ k. tabled m k (λ u v. has (listed (tabled n m (λ v u. s u v)) v) u)) (length_tabled n m (λ v u. s u v))
    ∙ tabled_same m n (λ u v. has (listed (tabled n m (λ v u. s u v)) v) u) s
    (λ u v hu hv.
    ap (λ l. has l u) (listed_tabled n m (λ v u. s u v) v hv) ∙ has_members m (λ u. s u v) u ∙ ap (λ b. b && s u v) (lt-ltb u m hu))

-- so do lists that are made from one test, from both sides
pub told_tabled : (m n : ℕ) (s : ℕ → Set) (rows columns : List (List ℕ)) → rows ≡ tabled m n s → columns ≡ tabled n m (λ v u. s u v) → rows ≡ transposed (length rows) columns
told_tabled m n s rows columns r c =
    r ∙ sym (ap₂ transposed (ap length r ∙ length_tabled m n s) c ∙ transposed_tabled m n s)

-- ---- each side tells of the other

module _ (rows columns : List (List ℕ)) (told : rows ≡ transposed (length rows) columns) where
  row_is : (u : ℕ) → u < length rows → listed rows u ≡ members (length columns) (λ v. has (listed columns v) u)
  row_is u h = ap (λ l. listed l u) told ∙ listed_tabled (length rows) (length columns) (λ u v. has (listed columns v) u) u h

  row_has : (u v : ℕ) → u < length rows → v < length columns → has (listed rows u) v ≡ has (listed columns v) u
  row_has u v hu hv =
      ap (λ l. has l v) (row_is u hu) ∙ has_members (length columns) (λ v. has (listed columns v) u) v ∙ ap (λ b. b && has (listed columns v) u) (lt-ltb v (length columns) hv)

  row_apart : (u : ℕ) → u < length rows → Apart (listed rows u)
  row_apart u h = subst Apart (sym (row_is u h)) (members_apart (length columns) (λ v. has (listed columns v) u))

  row_within : (u v : ℕ) → u < length rows → has (listed rows u) v ≡ true → v < length columns
  row_within u v h e = members_within (length columns) (λ v. has (listed columns v) u) v (ap (λ l. has l v) (sym (row_is u h)) ∙ e)

pub paired_listed : (most : ℕ) (rows columns : List (List ℕ))
    → rows ≡ transposed (length rows) columns
    → columns ≡ transposed (length columns) rows
    → short most rows ≡ true
    → short most columns ≡ true
    → Paired most (length rows) (length columns) (listed rows) (listed columns)
paired_listed most rows columns by_row by-column few_rows few-columns = record {
  same = row_has rows columns by_row;
  row_apart = row_apart rows columns by_row;
  column_apart = row_apart columns rows by-column;
  row_within = row_within rows columns by_row;
  column_within = row_within columns rows by-column;
  row_few = λ u h. leb-true (length (listed rows u)) most (all_below_at (length rows) (λ u. leb (length (listed rows u)) most) few_rows u h);
  column_few = λ v h. leb-true (length (listed columns v)) most (all_below_at (length columns) (λ v. leb (length (listed columns v)) most) few-columns v h);
}

-- a size that was told is that of a row
pub size_told : (m : ℕ) (of_row : ℕ → List ℕ) (u size : ℕ) → Some size ≡ size_at m of_row u → (u < m) × (size ≡ length (of_row u))
size_told m of_row u size e =
    ⊎_elim
    (λ in'. let some : Some size ≡ Some (length (of_row u)) = e ∙ cond-true (ltb u m) (Some (length (of_row u))) None in' in (ltb-true u m in', cc some))
    (λ out. let none : Some size ≡ None = e ∙ cond-false (ltb u m) (Some (length (of_row u))) None out in let z : ◌≡◌ {A = ℕ} 0 1 = cc none in absurd (omega arith))
    (cases_Bool (ltb u m))

pub size_short : (most : ℕ) (lists : List (List ℕ)) → short most lists ≡ true → (u size : ℕ) → Some size ≡ size_at (length lists) (listed lists) u → size ≤ most
size_short most lists h u size e =
    let told = size_told (length lists) (listed lists) u size e in
    let few : length (listed lists u) ≤ most = leb-true (length (listed lists u)) most (all_below_at (length lists) (λ u. leb (length (listed lists u)) most) h u told.0) in
    omega (arith, told.1)
