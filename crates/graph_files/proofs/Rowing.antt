-- The rows of a graph, written one after another. Assumes nothing.
use Rattle.std.proofs.Common.{◌≡◌, ℕ, ◌+◌, ◌*◌, ◌<◌, ◌≤◌, List, ◌++◌, length, take, drop, replicate, sym, ap, ◌∙◌, ap₂, mul_comm, add-mul, mul-add, arith}
use borrow.Rule.Slice.PartMut.{put_mid, post_of}
use Rattle.std.proofs.lemmas.Nat.{mul-le}
use Rattle.std.proofs.lemmas.List.{append_assoc, drop_at, drop-drop, length-append, length-replicate, take_at}
use Rattle.std.proofs.lemmas.Slice.{take-put_mid}
use Rattle.std.proofs.lemmas.Bool.{eq-eqb}
use Rattle.patterns.specs.Sets.{has}
use Rattle.patterns.specs.Patterns.{toggled_all, width}
use Rattle.patterns.proofs.Packed.{length_pattern}
use Rattle.patterns.proofs.Added.{added_to_none}
use Rattle.patterns.proofs.Toggled.{toggled_all_is}
use Rattle.graphs.specs.Tanners.{Tanner, Wired}
use Rattle.graph_files.specs.Files.{head_of, row_of, rows_of, file_of}
use Rattle.graph_files.proofs.Blocks.{joined_more, length_blocks}

-- a row from no variables on
pub row_none : (t : Tanner) (p : ℕ) → Wired t → p < t.checks → (row : List ℕ) → row ≡ replicate (width t.variables) 0 → toggled_all row (t.of_check p) ≡ row_of t p
row_none t p w h row e =
    let n = t.variables in
    let zeros : List ℕ = replicate (width n) 0 in
    ap (λ r. toggled_all r (t.of_check p)) e
    ∙ toggled_all_is n (t.of_check p) zeros (eq-eqb (length zeros) (width n) (length-replicate {A = ℕ} (width n) 0)) (λ v on. w.paired.row_within p v h on) (w.paired.row_apart p h)
    ∙ added_to_none n (has (t.of_check p))

-- the place of a row
pub row_room : (w p m long : ℕ) → p < m → long ≡ m * w → w * p + w ≤ long
row_room w p m long h e = omega (arith, mul-le (p + 1) w m w (omega arith) (omega arith), add-mul p 1 w, mul_comm p w)

-- one row more, which takes the k bytes from its place on
pub rows_more : (t : Tanner) (p w k : ℕ) (rows row : List ℕ)
    → w ≡ width t.variables
    → w * p ≤ length rows
    → row ≡ row_of t p
    → take (w * p) rows ≡ rows_of t p
    → take (w * (p + 1)) (put_mid (w * p) k rows row) ≡ rows_of t (p + 1)
rows_more t p w k rows row wide room is before =
    let long : length row ≡ w = ap length is ∙ length_pattern t.variables (has (t.of_check p)) ∙ sym wide in
    let next : w * (p + 1) ≡ w * p + length row = omega (arith, mul-add w p 1) in
    let e : 0 + p ≡ p = omega arith in
    take-put_mid (w * p) k rows row (w * (p + 1)) next room
    ∙ ap₂ ◌++◌ before is
    ∙ sym (joined_more (row_of t) 0 p ∙ ap (λ k. rows_of t p ++ row_of t k) e)

-- ---- the whole file

pub length_file : (t : Tanner) → length (file_of t) ≡ 9 + t.checks * width t.variables
unfolding file_of
length_file t =
    omega (arith, length-append (head_of t.variables t.checks) (rows_of t t.checks), length_blocks (row_of t) (width t.variables) (λ p. length_pattern t.variables (has (t.of_check p))) 0 t.checks)

-- the head and then k bytes of rows written over the output
pub file_placed : (head rows out : List ℕ) (k : ℕ) → length head ≡ 9 → k ≡ length rows → put_mid 9 k (head ++ post_of 0 9 out) rows ≡ (head ++ rows) ++ drop (length (head ++ rows)) out
file_placed head rows out k nine e =
    let rest = drop 9 out in
    let all : length (head ++ rows) ≡ 9 + k = omega (arith, length-append head rows) in
    ap₂ (λ x y. x ++ (rows ++ drop k y)) (take_at head rest 9 nine) (drop_at head rest 9 nine)
    ∙ ap (λ x. head ++ (rows ++ x)) (drop-drop k 9 out ∙ ap (λ j. drop j out) (sym all))
    ∙ sym (append_assoc head rows (drop (length (head ++ rows)) out))
