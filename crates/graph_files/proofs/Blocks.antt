-- Blocks of w bytes, one after another. Assumes nothing.
use Rattle.std.proofs.Common.{◌≡◌, ℕ, zero, suc, ◌+◌, ◌*◌, ◌<◌, List, ◌++◌, length, take, drop, sym, refl, ap, ◌∙◌, ap₂, mul_comm, mul-suc, arith}
use Rattle.std.specs.List.{range_with_len, flat_map}
use Rattle.std.proofs.lemmas.List.{append-nil, append_assoc, length-append, take_at, drop_at, drop-drop, drop_all, take-append-drop}

pub joined_same : (f g : ℕ → List ℕ) (a n : ℕ) → ((k : ℕ) → k < a + n → f k ≡ g k) → flat_map f (range_with_len a n) ≡ flat_map g (range_with_len a n)
joined_same f g a zero h = refl
joined_same f g a (suc n) h = ap₂ ◌++◌ (h a (omega arith)) (joined_same f g (a + 1) n (λ k l. h k (omega arith)))

-- one block more
pub joined_more : (f : ℕ → List ℕ) (a n : ℕ) → flat_map f (range_with_len a (n + 1)) ≡ flat_map f (range_with_len a n) ++ f (a + n)
joined_more f a zero = let e : a + 0 ≡ a = omega arith in append-nil (f a) ∙ ap f (sym e)
joined_more f a (suc n) =
    let e : suc n + 1 ≡ suc (n + 1) = omega arith in
    let s : (a + 1) + n ≡ a + suc n = omega arith in
    ap (λ k. flat_map f (range_with_len a k)) e
    ∙ ap (λ x. f a ++ x) (joined_more f (a + 1) n)
    ∙ sym (append_assoc (f a) (flat_map f (range_with_len (a + 1) n)) (f ((a + 1) + n)))
    ∙ ap (λ k. (f a ++ flat_map f (range_with_len (a + 1) n)) ++ f k) s

module _ (f : ℕ → List ℕ) (w : ℕ) (wide : (k : ℕ) → length (f k) ≡ w) where
  pub length_blocks : (a n : ℕ) → length (flat_map f (range_with_len a n)) ≡ n * w
  length_blocks a zero = omega arith
  length_blocks a (suc n) =
      let e = length-append (f a) (flat_map f (range_with_len (a + 1) n)) in
      omega (arith, e, wide a, length_blocks (a + 1) n, mul_comm (suc n) w, mul-suc w n, mul_comm n w)

  pub block_at : (a n p : ℕ) → p < n → take w (drop (w * p) (flat_map f (range_with_len a n))) ≡ f (a + p)
  block_at a zero p h = absurd (omega arith)
  block_at a (suc n) zero h =
      let z : w * 0 ≡ 0 = omega arith in
      let e : a + 0 ≡ a = omega arith in
      ap (λ k. take w (drop k (flat_map f (range_with_len a (suc n))))) z ∙ take_at (f a) (flat_map f (range_with_len (a + 1) n)) w (wide a) ∙ ap f (sym e)
  block_at a (suc n) (suc p) h =
      let rest : List ℕ = flat_map f (range_with_len (a + 1) n) in
      let e : (a + 1) + p ≡ a + suc p = omega arith in
      let s : w * suc p ≡ w + w * p = omega (arith, mul-suc w p) in
      ap (λ k. take w (drop k (f a ++ rest))) s
      ∙ ap (take w) (sym (drop-drop (w * p) w (f a ++ rest)) ∙ ap (drop (w * p)) (drop_at (f a) rest w (wide a)))
      ∙ block_at (a + 1) n p (omega arith)
      ∙ ap f e

-- bytes of so many blocks are their blocks
pub blocks_are : (rows : List ℕ) (w a n : ℕ) → length rows ≡ (a + n) * w → flat_map (λ p. take w (drop (w * p) rows)) (range_with_len a n) ≡ drop (w * a) rows
blocks_are rows w a zero h = let e : a + 0 ≡ a = omega arith in sym (drop_all (w * a) rows (omega (arith, mul_comm w a, ap (λ k. k * w) e)))
blocks_are rows w a (suc n) h =
    let e : (a + 1) + n ≡ a + suc n = omega arith in
    let s : w * (a + 1) ≡ w * a + w = let one : a + 1 ≡ suc a = omega arith in ap (λ k. w * k) one ∙ mul-suc w a in
    ap (λ x. take w (drop (w * a) rows) ++ x)
    (blocks_are rows w (a + 1) n (h ∙ ap (λ k. k * w) (sym e)) ∙ ap (λ k. drop k rows) s ∙ sym (drop-drop w (w * a) rows))
    ∙ take-append-drop w (drop (w * a) rows)
