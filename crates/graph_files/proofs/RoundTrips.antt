-- A graph written and read is the same graph, and a file read and written is the same file. Assumes nothing.
use Rattle.std.proofs.Common.{◌≡◌, ℕ, zero, suc, ◌+◌, ◌*◌, ◌/◌, ◌%◌, ◌<◌, ◌≤◌, true, ◌&&◌, eqb, leb, List, ◌∷◌, ◌++◌, map, length, get_or, drop, None, sym, refl, ap, ◌∙◌, subst, ap₂, ⊎_elim, suc-mul, mul_comm, arith}
use Rattle.std.specs.List.{range_with_len}
use Rattle.std.proofs.lemmas.Nat.{mul-le}
use Rattle.std.proofs.lemmas.List.{length-drop, length-take, length-take-le, get_or-take, get_or-drop, drop_more}
use Rattle.std.proofs.lemmas.Bool.{cases_lt, cases_Bool, lt-ltb, le-ltb, leb-true, le-leb, eqb-true, eq-eqb, and_parts, and_from}
use Rattle.refusals.specs.Questions.{first_no}
use Rattle.refusals.proofs.Asking.{Yes, yes_from_none, none_from_yes, first_no_rest}
use Rattle.patterns.specs.Sets.{Set, has, members, tally}
use Rattle.patterns.specs.Patterns.{width, member, pattern, tidy, Well, Bytes}
use Rattle.patterns.proofs.Lists.{has_members, all_below_at, all_below_from}
use Rattle.patterns.proofs.Packed.{length_pattern, member_pattern, pattern_same, pattern_well, well_pattern}
use Rattle.patterns.proofs.Weighed.{tally_same, tally_has}
use Rattle.matrices.specs.Relations.{listed, tabled}
use Rattle.matrices.specs.Rows.{row, entry, turned_entry, just_rows, tidy_rows, few}
use Rattle.matrices.proofs.Tables.{length_tabled, listed_tabled}
use Rattle.graphs.specs.Tanners.{Tanner, Wired, Same, counted, most_nodes, most_neighbours}
use Rattle.graph_files.specs.Files.{word, variables_in, checks_in, rows_in, head_questions, row_questions, graph_refusal, rows_graph, graph_in, head_of, row_of, rows_of, file_of, WrittenIsRead}
use Rattle.graph_files.proofs.Blocks.{joined_same, length_blocks, block_at, blocks_are}

-- ---- written, then read

-- the rows of a written graph, and what they tell
abbrev rows : Tanner → List ℕ
rows t = rows_of t t.checks

abbrev edges : Tanner → ℕ → Set
edges t = entry t.variables (rows t)

abbrev turned_edges : Tanner → ℕ → Set
turned_edges t = turned_entry t.variables (rows t)

wide : (t : Tanner) (p : ℕ) → length (row_of t p) ≡ width t.variables
wide t p = length_pattern t.variables (has (t.of_check p))

row_read : (t : Tanner) (p : ℕ) → p < t.checks → row t.variables (rows t) p ≡ row_of t p
row_read t p h = let e : 0 + p ≡ p = omega arith in block_at (row_of t) (width t.variables) (wide t) 0 t.checks p h ∙ ap (row_of t) e

module _ (t : Tanner) (w : Wired t) where
  edge_read : (p v : ℕ) → p < t.checks → v < t.variables → edges t p v ≡ has (t.of_check p) v
  edge_read p v hp hv = ap (λ r. member r v) (row_read t p hp) ∙ member_pattern t.variables (has (t.of_check p)) v hv

  turned_edge_read : (v p : ℕ) → v < t.variables → p < t.checks → turned_edges t v p ≡ has (t.of_variable v) p
  turned_edge_read v p hv hp = edge_read p v hp hv ∙ w.paired.same p v hp hv

  few_variables : few most_neighbours t.checks t.variables (edges t) ≡ true
  few_variables =
      all_below_from t.checks (λ p. leb (tally t.variables (edges t p)) most_neighbours)
      (λ p hp.
      let same = tally_same t.variables (edges t p) (has (t.of_check p)) (λ v hv. edge_read p v hp hv) in
      le-leb (tally t.variables (edges t p)) most_neighbours (omega (arith, same, tally_has t.variables (t.of_check p), w.paired.row_few p hp)))

  few_checks : few most_neighbours t.variables t.checks (turned_edges t) ≡ true
  few_checks =
      all_below_from t.variables (λ v. leb (tally t.checks (turned_edges t v)) most_neighbours)
      (λ v hv.
      let same = tally_same t.checks (turned_edges t v) (has (t.of_variable v)) (λ p hp. turned_edge_read v p hv hp) in
      le-leb (tally t.checks (turned_edges t v)) most_neighbours (omega (arith, same, tally_has t.checks (t.of_variable v), w.paired.column_few v hv)))

  rows_tidy : tidy_rows t.checks t.variables (rows t) ≡ true
  rows_tidy =
      all_below_from t.checks (λ p. tidy t.variables (row t.variables (rows t) p))
      (λ p hp. ap (tidy t.variables) (row_read t p hp) ∙ (pattern_well t.variables (has (t.of_check p))).clean)

  rows_long : just_rows t.checks t.variables (rows t) ≡ true
  rows_long = eq-eqb (length (rows t)) (t.checks * width t.variables) (length_blocks (row_of t) (width t.variables) (wide t) 0 t.checks)

  rows_accepted : first_no (row_questions t.checks t.variables (rows t)) ≡ None
  rows_accepted =
      let m = t.checks in
      let n = t.variables in
      none_from_yes (row_questions m n (rows t)) (rows_long, (rows_tidy, (and_from (few most_neighbours m n (edges t)) (few most_neighbours n m (turned_edges t)) few_variables few_checks, tt)))

  count_read : (k : ℕ) → 256 * (k / 256) + k % 256 ≡ k
  count_read k = omega arith

  in_range : (k : ℕ) → 1 ≤ k → k ≤ most_nodes → counted k ≡ true
  in_range k low high = and_from (leb 1 k) (leb k most_nodes) (le-leb 1 k low) (le-leb k most_nodes high)

  head_accepted : first_no (head_questions (file_of t)) ≡ None
  unfolding file_of
  head_accepted =
      let n = t.variables in
      let m = t.checks in
      let whole : leb 9 (length (file_of t)) ≡ true = le-leb 9 (length (file_of t)) (omega arith) in
      let counts = and_from (counted (variables_in (file_of t))) (counted (checks_in (file_of t)))
      (ap counted (count_read n) ∙ in_range n w.some_variables w.most_variables)
      (ap counted (count_read m) ∙ in_range m w.some_checks w.most_checks) in
      none_from_yes (head_questions (file_of t)) (whole, (refl, (refl, (counts, tt))))

  -- what is read of the head is what was written
  questions_read : row_questions (checks_in (file_of t)) (variables_in (file_of t)) (rows_in (file_of t)) ≡ row_questions t.checks t.variables (rows t)
  unfolding file_of
  questions_read = ap₂ (λ m n. row_questions m n (rows t)) (count_read t.checks) (count_read t.variables)

  graph_read : graph_in (file_of t) ≡ rows_graph t.checks t.variables (rows t)
  unfolding file_of
  graph_read = ap₂ (λ m n. rows_graph m n (rows t)) (count_read t.checks) (count_read t.variables)

  -- the lists of a table that has the edges of a list
  list_read : (m n p v : ℕ) (s : ℕ → Set) (xs : List ℕ) → p < m → ((k : ℕ) → k < n → s p k ≡ has xs k) → ((k : ℕ) → has xs k ≡ true → k < n) → has xs v ≡ has (listed (tabled m n s) p) v
  list_read m n p v s xs hp same within =
      sym (ap (λ l. has l v) (listed_tabled m n s p hp) ∙ has_members n (s p) v
      ∙ ⊎_elim
      (λ l. ap (λ b. b && s p v) (lt-ltb v n l) ∙ same v l)
      (λ l. ap (λ b. b && s p v) (le-ltb v n l) ∙ sym (⊎_elim (λ on. let z : v < n = within v on in absurd (omega arith)) (λ off. off) (cases_Bool (has xs v))))
      (cases_lt v n))

  same_read : Same t (rows_graph t.checks t.variables (rows t))
  same_read =
      let m = t.checks in
      let n = t.variables in
      record {
        variables = sym (length_tabled n m (turned_edges t));
        checks = sym (length_tabled m n (edges t));
        of_check = λ p v hp. list_read m n p v (edges t) (t.of_check p) hp (λ k hk. edge_read p k hp hk) (λ k on. w.paired.row_within p k hp on);
        of_variable = λ v p hv. list_read n m v p (turned_edges t) (t.of_variable v) hv (λ k hk. turned_edge_read v k hv hk) (λ k on. w.paired.column_within v k hv on);
      }

  pub written_is_read : WrittenIsRead t
  unfolding graph_refusal
  written_is_read = (
    first_no_rest (head_questions (file_of t)) (row_questions (checks_in (file_of t)) (variables_in (file_of t)) (rows_in (file_of t))) head_accepted
        ∙ ap first_no questions_read
        ∙ rows_accepted,
    subst (Same t) (sym graph_read) same_read,
  )

-- ---- read, then written

-- the numbers of a list one by one, from i on
opened : (i k : ℕ) (xs : List ℕ) → i + k ≤ length xs → drop i xs ≡ map (λ j. get_or xs j 0) (range_with_len i k) ++ drop (i + k) xs
opened i zero xs h = let e : i + 0 ≡ i = omega arith in ap (λ j. drop j xs) (sym e)
opened i (suc k) xs h =
    let e : (i + 1) + k ≡ i + suc k = omega arith in
    drop_more xs i 0 (omega arith) ∙ ap (λ ys. get_or xs i 0 ∷ ys) (opened (i + 1) k xs (omega arith) ∙ ap (λ j. map (λ j. get_or xs j 0) (range_with_len (i + 1) k) ++ drop j xs) e)

module _ (f : List ℕ) (bytes : (i : ℕ) → get_or f i 0 < 256) (accepted : graph_refusal f ≡ None) where
  replies : Yes (head_questions f ++ row_questions (checks_in f) (variables_in f) (rows_in f))
  unfolding graph_refusal
  replies = yes_from_none (head_questions f ++ row_questions (checks_in f) (variables_in f) (rows_in f)) accepted

  whole : 9 ≤ length f
  whole = leb-true 9 (length f) replies.0

  head_is : f ≡ head_of (variables_in f) (checks_in f) ++ rows_in f
  head_is =
      let marks = and_parts (eqb (get_or f 0 0) 84) (eqb (get_or f 1 0) 65 && eqb (get_or f 2 0) 78) replies.1.0 in
      let later = and_parts (eqb (get_or f 1 0) 65) (eqb (get_or f 2 0) 78) marks.1 in
      let version : word f 3 ≡ 1 = eqb-true (word f 3) 1 replies.1.1.0 in
      let e0 : get_or f 0 0 ≡ 84 = eqb-true (get_or f 0 0) 84 marks.0 in
      let e1 : get_or f 1 0 ≡ 65 = eqb-true (get_or f 1 0) 65 later.0 in
      let e2 : get_or f 2 0 ≡ 78 = eqb-true (get_or f 2 0) 78 later.1 in
      let e3 : get_or f 3 0 ≡ 0 = omega arith in
      let e4 : get_or f 4 0 ≡ 1 = omega arith in
      let e5 : get_or f 5 0 ≡ variables_in f / 256 = omega (arith, bytes 6) in
      let e6 : get_or f 6 0 ≡ variables_in f % 256 = omega (arith, bytes 6) in
      let e7 : get_or f 7 0 ≡ checks_in f / 256 = omega (arith, bytes 8) in
      let e8 : get_or f 8 0 ≡ checks_in f % 256 = omega (arith, bytes 8) in
      opened 0 9 f whole ∙ cc

  rows_length : length (rows_in f) ≡ checks_in f * width (variables_in f)
  rows_length = eqb-true (length (rows_in f)) (checks_in f * width (variables_in f)) replies.1.1.1.1.0

  -- each row is a pattern
  row_well : (p : ℕ) → p < checks_in f → Well (variables_in f) (row (variables_in f) (rows_in f) p)
  row_well p h =
      let n = variables_in f in
      let b = width n in
      let r = row n (rows_in f) p in
      let room : suc p * b ≤ checks_in f * b = mul-le (suc p) b (checks_in f) b h (omega arith) in
      let long : length r ≡ b = length-take-le b (drop (b * p) (rows_in f)) (omega (arith, length-drop (b * p) (rows_in f), rows_length, suc-mul p b, mul_comm b p)) in
      record {
        long = eq-eqb (length r) b long;
        clean = all_below_at (checks_in f) (λ p. tidy n (row n (rows_in f) p)) replies.1.1.1.1.1.0 p h;
      }

  row_bytes : (p : ℕ) → Bytes (row (variables_in f) (rows_in f) p)
  row_bytes p i h =
      let b = width (variables_in f) in
      let within : i < b = omega (arith, length-take b (drop (b * p) (rows_in f))) in
      subst (λ x. x < 256)
      (sym (get_or-take b (drop (b * p) (rows_in f)) i 0 within ∙ get_or-drop (b * p) (rows_in f) i 0 ∙ get_or-drop 9 f (b * p + i) 0))
      (bytes (9 + (b * p + i)))

  row_written : (p : ℕ) → p < checks_in f → row_of (graph_in f) p ≡ row (variables_in f) (rows_in f) p
  row_written p h =
      let n = variables_in f in
      let m = checks_in f in
      let r = row n (rows_in f) p in
      ap₂ (λ k l. pattern k (has l)) (length_tabled n m (turned_entry n (rows_in f))) (listed_tabled m n (entry n (rows_in f)) p h)
      ∙ pattern_same n (has (members n (member r))) (member r) (λ v l. has_members n (member r) v ∙ ap (λ b. b && member r v) (lt-ltb v n l))
      ∙ sym (well_pattern n r (row_well p h) (row_bytes p))

  pub read_is_written : file_of (graph_in f) ≡ f
  unfolding file_of
  read_is_written =
      let n = variables_in f in
      let m = checks_in f in
      let b = width n in
      let none : b * 0 ≡ 0 = omega arith in
      let all : 0 + m ≡ m = omega arith in
      ap₂ (λ k l. head_of k l ++ rows_of (graph_in f) l) (length_tabled n m (turned_entry n (rows_in f))) (length_tabled m n (entry n (rows_in f)))
      ∙ ap (λ x. head_of n m ++ x)
      (joined_same (row_of (graph_in f)) (row n (rows_in f)) 0 m (λ p l. row_written p (omega arith))
      ∙ blocks_are (rows_in f) b 0 m (rows_length ∙ ap (λ k. k * b) (sym all))
      ∙ ap (λ k. drop k (rows_in f)) none)
      ∙ sym head_is
