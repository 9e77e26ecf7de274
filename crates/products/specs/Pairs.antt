-- Numbers for pairs: (a, b), with b below w, is a * w + b. Relations on pairs, from a relation on one part. Assumes nothing.
use Rattle.std.specs.Prelude.{ℕ, ◌+◌, ◌-◌, ◌*◌, ◌/◌, ◌%◌, cond, List, ◌++◌, map, nat_lt}

-- the pairs (v, b) for each v that is joined to a, where x is (a, b) under w
abbrev pub by_first : ℕ → (ℕ → List ℕ) → ℕ → List ℕ
by_first w lists x = map (λ v. v * w + x % w) (lists (x / w))

-- the pairs (a, v) under n for each v that is joined to b, where x is (a, b) under m
abbrev pub by_second : ℕ → ℕ → (ℕ → List ℕ) → ℕ → List ℕ
by_second m n lists x = map (λ v. x / m * n + v) (lists (x % m))

-- rows over two blocks of columns, the first of n columns
abbrev pub two_blocks : ℕ → (ℕ → List ℕ) → (ℕ → List ℕ) → ℕ → List ℕ
two_blocks n one two u = one u ++ map (λ v. n + v) (two u)

-- columns in two blocks, the first of n columns
abbrev pub in_block : ℕ → (ℕ → List ℕ) → (ℕ → List ℕ) → ℕ → List ℕ
in_block n one two v = cond (nat_lt v n) (one v) (two (v - n))
