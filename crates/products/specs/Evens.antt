-- The product of two graphs is a code. Assumes nothing.
use Rattle.std.specs.Prelude.{◌≡◌, ℕ, ◌+◌, ◌-◌, ◌*◌, ◌/◌, ◌%◌, ◌<◌, Bool, true, false, ◌&&◌, List, [], ◌∷◌, map, ◌==◌, nat_eq, refl}
use Rattle.std.proofs.Common.{sym, ap, ap₂, ◌∙◌, arith, mul_comm}
use Rattle.std.proofs.Math.Bool.{and_comm}
use Rattle.std.proofs.lemmas.Nat.{mul-le, mul-lt, div_below, mod_below, mul-add-lt, div-mul-add, mod-mul-add}
use Rattle.std.proofs.lemmas.Bool.{eqb-true, eqb-false}
use Rattle.patterns.specs.Sets.{Set, ◌⊕◌, has, parity}
use Rattle.patterns.proofs.Sums.{plus_self}
use Rattle.patterns.proofs.Lists.{parity_append, parity_map, parity_same, parity_one}
use Rattle.matrices.specs.Relations.{Paired}
use Rattle.graphs.specs.Tanners.{Tanner, Wired, most_nodes}
use Rattle.graphs.specs.Turns.{paired_turned}
use Rattle.codes.specs.Layouts.{Sound}
use Rattle.products.specs.Pairs.{by_first, by_second}
use Rattle.products.specs.Products.{product_of, BlockRows}
use Rattle.products.specs.Pairing.{first_paired, first_has, first_none, second_paired, second_has, second_none}
use Rattle.products.specs.Blocks.{blocks_paired, in_left, in_right}

-- what holds where a test does, and nothing elsewhere
where_tested : (e k x : Bool) → (e ≡ true → x ≡ k) → (e ≡ false → x ≡ false) → x ≡ (e && k)
where_tested true k x on off = on refl
where_tested false k x on off = off refl

parity_scale : (s : Set) (k : Bool) (xs : List ℕ) → parity (λ v. s v && k) xs ≡ (parity s xs && k)
parity_scale s k [] = refl
parity_scale s k (x ∷ xs) = ap (λ r. (s x && k) ⊕ r) (parity_scale s k xs) ∙ both (s x) (parity s xs) k
  where
    both : (p q k : Bool) → ((p && k) ⊕ (q && k)) ≡ ((p ⊕ q) && k)
    both true true true = refl
    both true true false = refl
    both true false true = refl
    both true false false = refl
    both false q k = refl

module _ (a b : Tanner) (wa : Wired a) (wb : Wired b) where
  -- the four parts of the two relations
  checks_left : Paired 6 (a.variables * b.checks) (a.variables * b.variables) (by_second b.checks b.variables b.of_check) (by_second b.variables b.checks b.of_variable)
  checks_left = second_paired a.variables wb.some_checks wb.some_variables wb.paired

  checks_right : Paired 6 (a.variables * b.checks) (a.checks * b.checks) (by_first b.checks a.of_variable) (by_first b.checks a.of_check)
  checks_right = first_paired b.checks wb.some_checks (paired_turned wa.paired)

  generators_left : Paired 6 (a.checks * b.variables) (a.variables * b.variables) (by_first b.variables a.of_check) (by_first b.variables a.of_variable)
  generators_left = first_paired b.variables wb.some_variables wa.paired

  generators_right : Paired 6 (a.checks * b.variables) (a.checks * b.checks) (by_second b.variables b.checks b.of_variable) (by_second b.checks b.variables b.of_check)
  generators_right = second_paired a.checks wb.some_variables wb.some_checks (paired_turned wb.paired)

  -- ---- entries, by the parts of their numbers

  first_entry : (w : ℕ) → 0 < w → (lists : ℕ → List ℕ) (x y : ℕ) → has (by_first w lists x) y ≡ (x % w == y % w && has (lists (x / w)) (y / w))
  first_entry w some lists x y =
      where_tested (x % w == y % w) (has (lists (x / w)) (y / w)) (has (by_first w lists x) y)
      (λ e. first_has w some lists x y (eqb-true (x % w) (y % w) e))
      (λ e. first_none w some lists x y (eqb-false (x % w) (y % w) e))

  second_entry : (m n : ℕ) → 0 < n → (lists : ℕ → List ℕ) (x y : ℕ) → ((v : ℕ) → has (lists (x % m)) v ≡ true → v < n) → has (by_second m n lists x) y ≡ (x / m == y / n && has (lists (x % m)) (y % n))
  second_entry m n some lists x y within =
      where_tested (x / m == y / n) (has (lists (x % m)) (y % n)) (has (by_second m n lists x) y)
      (λ e. second_has m n lists some x y (eqb-true (x / m) (y / n) e))
      (λ e. second_none m n lists x y within (eqb-false (x / m) (y / n) e))

  -- a qubit (i, j) or (p, q) in the generator y
  module _ (y : ℕ) (hy : y < a.checks * b.variables) where
    y/ : y / b.variables < a.checks
    y/ = div_below y b.variables a.checks wb.some_variables hy

    y% : y % b.variables < b.variables
    y% = mod_below y b.variables wb.some_variables

    generator_at_left : (i j : ℕ) → i < a.variables → j < b.variables
        → has ((product_of a b).of_generator y) (i * b.variables + j) ≡ (y % b.variables == j && has (a.of_check (y / b.variables)) i)
    generator_at_left i j hi hj =
        let n = b.variables in
        in_left generators_left generators_right y (i * n + j) (omega (arith, mul-add-lt i n j a.variables hi hj, mul_comm a.variables n))
        ∙ first_entry n wb.some_variables a.of_check y (i * n + j)
        ∙ ap₂ (λ r s. (y % n == r) && has (a.of_check (y / n)) s) (mod-mul-add i n j hj) (div-mul-add i n j hj)

    generator_at_right : (p q : ℕ) → p < a.checks → q < b.checks
        → has ((product_of a b).of_generator y) (a.variables * b.variables + (p * b.checks + q)) ≡ (y / b.variables == p && has (b.of_variable (y % b.variables)) q)
    generator_at_right p q hp hq =
        let n = b.variables in
        let m = b.checks in
        let start = a.variables * n in
        let less : start + (p * m + q) - start ≡ p * m + q = omega arith in
        in_right generators_left generators_right y (start + (p * m + q)) hy (omega arith)
        ∙ ap (has (by_second n m b.of_variable y)) less
        ∙ second_entry n m wb.some_checks b.of_variable y (p * m + q) (λ v. wb.paired.column_within (y % n) v y%)
        ∙ ap₂ (λ r s. (y / n == r) && has (b.of_variable (y % n)) s) (div-mul-add p m q hq) (mod-mul-add p m q hq)

  module _ (x : ℕ) (hx : x < a.variables * b.checks) where
    x/ : x / b.checks < a.variables
    x/ = div_below x b.checks a.variables wb.some_checks hx

    x% : x % b.checks < b.checks
    x% = mod_below x b.checks wb.some_checks

    check_at_left : (i j : ℕ) → i < a.variables → j < b.variables
        → has ((product_of a b).of_check x) (i * b.variables + j) ≡ (x / b.checks == i && has (b.of_check (x % b.checks)) j)
    check_at_left i j hi hj =
        let n = b.variables in
        let m = b.checks in
        in_left checks_left checks_right x (i * n + j) (omega (arith, mul-add-lt i n j a.variables hi hj, mul_comm a.variables n))
        ∙ second_entry m n wb.some_variables b.of_check x (i * n + j) (λ v. wb.paired.row_within (x % m) v x%)
        ∙ ap₂ (λ r s. (x / m == r) && has (b.of_check (x % m)) s) (div-mul-add i n j hj) (mod-mul-add i n j hj)

    check_at_right : (p q : ℕ) → p < a.checks → q < b.checks
        → has ((product_of a b).of_check x) (a.variables * b.variables + (p * b.checks + q)) ≡ (x % b.checks == q && has (a.of_variable (x / b.checks)) p)
    check_at_right p q hp hq =
        let n = b.variables in
        let m = b.checks in
        let start = a.variables * n in
        let less : start + (p * m + q) - start ≡ p * m + q = omega arith in
        in_right checks_left checks_right x (start + (p * m + q)) hx (omega arith)
        ∙ ap (has (by_first m a.of_variable x)) less
        ∙ first_entry m wb.some_checks a.of_variable x (p * m + q)
        ∙ ap₂ (λ r s. (x % m == r) && has (a.of_variable (x / m)) s) (mod-mul-add p m q hq) (div-mul-add p m q hq)

  -- ---- every generator shares an even number of qubits with every check

  module _ (x y : ℕ) (hx : x < a.variables * b.checks) (hy : y < a.checks * b.variables) where
    -- the qubits (i, j) that check x = (i, q) shares with generator y = (p, j)
    left_shared : parity (has ((product_of a b).of_generator y)) (by_second b.checks b.variables b.of_check x) ≡ (has (b.of_check (x % b.checks)) (y % b.variables) && has (a.of_check (y / b.variables)) (x / b.checks))
    left_shared =
        let n = b.variables in
        let m = b.checks in
        let js = b.of_check (x % m) in
        let k = has (a.of_check (y / n)) (x / m) in
        parity_map (has ((product_of a b).of_generator y)) (λ j. x / m * n + j) js
        ∙ parity_same (λ j. has ((product_of a b).of_generator y) (x / m * n + j)) (λ j. (y % n == j) && k) js
        (λ j h. generator_at_left y hy (x / m) j (x/ x hx) (wb.paired.row_within (x % m) j (x% x hx) h))
        ∙ parity_scale (nat_eq (y % n)) k js
        ∙ ap (λ r. r && k) (parity_one (y % n) js (wb.paired.row_apart (x % m) (x% x hx)))

    -- the qubits (p, q)
    right_shared : parity (has ((product_of a b).of_generator y)) (map (λ v. a.variables * b.variables + v) (by_first b.checks a.of_variable x)) ≡ (has (a.of_variable (x / b.checks)) (y / b.variables) && has (b.of_variable (y % b.variables)) (x % b.checks))
    right_shared =
        let n = b.variables in
        let m = b.checks in
        let start = a.variables * n in
        let ps = a.of_variable (x / m) in
        let k = has (b.of_variable (y % n)) (x % m) in
        parity_map (has ((product_of a b).of_generator y)) (λ v. start + v) (by_first m a.of_variable x)
        ∙ parity_map (λ v. has ((product_of a b).of_generator y) (start + v)) (λ p. p * m + x % m) ps
        ∙ parity_same (λ p. has ((product_of a b).of_generator y) (start + (p * m + x % m))) (λ p. (y / n == p) && k) ps
        (λ p h. generator_at_right y hy p (x % m) (wa.paired.column_within (x / m) p (x/ x hx) h) (x% x hx))
        ∙ parity_scale (nat_eq (y / n)) k ps
        ∙ ap (λ r. r && k) (parity_one (y / n) ps (wa.paired.column_apart (x / m) (x/ x hx)))

    even_product : parity (has ((product_of a b).of_generator y)) ((product_of a b).of_check x) ≡ false
    even_product =
        let n = b.variables in
        let m = b.checks in
        let j = has (a.of_check (y / n)) (x / m) in
        let k = has (b.of_check (x % m)) (y % n) in
        parity_append (has ((product_of a b).of_generator y)) (by_second m n b.of_check x) (map (λ v. a.variables * n + v) (by_first m a.of_variable x))
        ∙ ap₂ ◌⊕◌ left_shared (right_shared ∙ ap₂ ◌&&◌ (sym (wa.paired.same (y / n) (x / m) (y/ y hy) (x/ x hx))) (sym (wb.paired.same (x % m) (y % n) (x% x hx) (y% y hy))) ∙ and_comm j k)
        ∙ plus_self (k && j)

  pub sound_product : Sound (product_of a b)
  sound_product = record {
    some_qubits = omega (arith, mul-lt 0 0 a.variables b.variables wa.some_variables wb.some_variables);
    few_qubits = omega (arith, mul-le a.variables b.variables most_nodes most_nodes wa.most_variables wb.most_variables, mul-le a.checks b.checks most_nodes most_nodes wa.most_checks wb.most_checks);
    few_checks = mul-le a.variables b.checks most_nodes most_nodes wa.most_variables wb.most_checks;
    few_generators = mul-le a.checks b.variables most_nodes most_nodes wa.most_checks wb.most_variables;
    by_check = blocks_paired checks_left checks_right;
    by_generator = blocks_paired generators_left generators_right;
    even = even_product;
  }

  -- ---- the matrices

  -- the number of a pair
  paired_below : (i q n m : ℕ) → i < n → q < m → i * m + q < n * m
  paired_below i q n m hi hq = omega (arith, mul-add-lt i m q n hi hq, mul_comm n m)

  pub block_rows : BlockRows a b (product_of a b)
  block_rows =
      let n = b.variables in
      let m = b.checks in
      record {
        check_left = λ i q i' j hi hq hi' hj. check_at_left (i * m + q) (paired_below i q a.variables m hi hq) i' j hi' hj
            ∙ ap₂ (λ r s. (r == i') && has (b.of_check s) j) (div-mul-add i m q hq) (mod-mul-add i m q hq);
        check_right = λ i q p q' hi hq hp hq'. check_at_right (i * m + q) (paired_below i q a.variables m hi hq) p q' hp hq'
            ∙ ap₂ (λ r s. (r == q') && has (a.of_variable s) p) (mod-mul-add i m q hq) (div-mul-add i m q hq)
            ∙ ap (λ r. (q == q') && r) (sym (wa.paired.same p i hp hi))
            ∙ and_comm (q == q') (has (a.of_check p) i);
        generator_left = λ p j i j' hp hj hi hj'. generator_at_left (p * n + j) (paired_below p j a.checks n hp hj) i j' hi hj'
            ∙ ap₂ (λ r s. (r == j') && has (a.of_check s) i) (mod-mul-add p n j hj) (div-mul-add p n j hj)
            ∙ and_comm (j == j') (has (a.of_check p) i);
        generator_right = λ p j p' q hp hj hp' hq. generator_at_right (p * n + j) (paired_below p j a.checks n hp hj) p' q hp' hq
            ∙ ap₂ (λ r s. (r == p') && has (b.of_variable s) q) (div-mul-add p n j hj) (mod-mul-add p n j hj)
            ∙ ap (λ r. (p == p') && r) (sym (wb.paired.same q j hq hj));
      }
