-- Bytes that were split into the parts that tell a code. Assumes nothing.
use Rattle.std.proofs.Common.{◌≡◌, ℕ, ◌*◌, ◌≤◌, leb, List, [], ◌∷◌, length, get_or, take, drop, Some, None, sym, ap, ◌∙◌, subst, refl, arith}
use Rattle.std.specs.List.{IsSplitAt}
use Rattle.std.proofs.lemmas.Bool.{le-leb, cond-true}
use Rattle.patterns.specs.Patterns.{width}
use Rattle.graph_files.specs.Files.{word}
use Rattle.codes.specs.Layouts.{Layout}
use Rattle.written_codes.specs.Writing.{written_refusal, written_code}
use Rattle.foreign.specs.Told.{shifts_code, cyclic_code, rows_code, split_code, written_told}

-- the count and the shifts of a cyclic graph
pub cyclic_split : (bytes : List ℕ) (n : ℕ) (shifts : List ℕ) → 1 ≤ length bytes → n ≡ get_or bytes 0 0 → shifts ≡ drop 1 bytes → shifts_code n shifts ≡ cyclic_code bytes
cyclic_split [] n shifts h a b = absurd (omega arith)
cyclic_split (k ∷ ks) n shifts h a b = λ i. shifts_code (a i) (b i)

-- the rows end where those of the checks do, and those of the generators begin there; the counts are handed on
pub rows_split : (n k l n' k' l' k'' w : ℕ) (rows a b : List ℕ) → n' ≡ n → k' ≡ k → l' ≡ l → k'' ≡ k → w ≡ width n' → IsSplitAt rows (k'' * w) a b → rows_code n' k' l' a b ≡ split_code n k l rows
rows_split n k l n' k' l' k'' w rows a b en ek el ec ew s =
    let cut : k'' * w ≡ k * width n = λ i. ec i * (ew ∙ ap width en) i in
    let long : k * width n ≤ length rows = subst (λ (c : ℕ). c ≤ length rows) cut s.0 in
    let p : a ≡ take (k * width n) rows = s.1 ∙ ap (λ (c : ℕ). take c rows) cut in
    let q : b ≡ drop (k * width n) rows = s.2 ∙ ap (λ (c : ℕ). drop c rows) cut in
    let same : rows_code n' k' l' a b ≡ rows_code n k l (take (k * width n) rows) (drop (k * width n) rows) = λ i. rows_code (en i) (ek i) (el i) (p i) (q i) in
    same ∙ sym (cond-true (leb (k * width n) (length rows)) (rows_code n k l (take (k * width n) rows) (drop (k * width n) rows)) None (le-leb (k * width n) (length rows) long))

-- a code that no question refuses is the one that is told
pub rows_made : (n k l : ℕ) (a b : List ℕ) (c : Layout) → (written_refusal n k l a b ≡ None) × (c ≡ written_code n k l a b) → rows_code n k l a b ≡ Some c
rows_made n k l a b c made = rw (made.0, made.1) refl

-- the three counts of a code that is written out, and its rows
pub written_split : (bytes : List ℕ) (n k l : ℕ) (rows : List ℕ) → 6 ≤ length bytes → n ≡ word bytes 0 → k ≡ word bytes 2 → l ≡ word bytes 4 → rows ≡ drop 6 bytes → split_code n k l rows ≡ written_told bytes
written_split bytes n k l rows h en ek el er =
    let same : split_code n k l rows ≡ split_code (word bytes 0) (word bytes 2) (word bytes 4) (drop 6 bytes) = λ i. split_code (en i) (ek i) (el i) (er i) in
    same ∙ sym (cond-true (leb 6 (length bytes)) (split_code (word bytes 0) (word bytes 2) (word bytes 4) (drop 6 bytes)) None (le-leb 6 (length bytes) h))
