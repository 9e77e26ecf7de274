-- Sums that go round once. Assumes nothing.
use Rattle.std.specs.Prelude.{◌≡◌, ℕ, ◌+◌, ◌-◌, ◌%◌, ◌<◌, ◌≤◌, ◌⊎◌, ◌==◌}
use Rattle.std.proofs.Common.{sym, ◌∙◌, inl, inr, ⊎_elim, mod-eq_of_lt, arith}
use Rattle.std.proofs.Math.Nat.{mod-eq-sub-mod}
use Rattle.std.proofs.lemmas.Bool.{cases_lt, cases_Bool, eqb-true, eqb-false, eq-eqb, ne_eqb}

-- below twice n, the rest by n
around : (n x : ℕ) → x < n + n → ((x < n) × (x % n ≡ x)) ⊎ ((n ≤ x) × (x % n + n ≡ x))
around n x h =
    ⊎_elim
    (λ l. inl (l, mod-eq_of_lt l))
    (λ l.
    let less : x - n < n = omega arith in
    let rest : x % n ≡ x - n = mod-eq-sub-mod l ∙ mod-eq_of_lt less in
    inr (l, omega arith))
    (cases_lt x n)

-- s on and s back again
pub back : (n p v s : ℕ) → p < n → v < n → s < n → (p + s) % n ≡ v → (v + (n - s)) % n ≡ p
back n p v s hp hv hs e =
    ⊎_elim
    (λ a. ⊎_elim (λ b. omega arith) (λ b. omega arith) (around n (v + (n - s)) (omega arith)))
    (λ a. ⊎_elim (λ b. omega arith) (λ b. omega arith) (around n (v + (n - s)) (omega arith)))
    (around n (p + s) (omega arith))

-- s back and s on again
pub forth : (n p v s : ℕ) → p < n → v < n → s < n → (v + (n - s)) % n ≡ p → (p + s) % n ≡ v
forth n p v s hp hv hs e =
    ⊎_elim
    (λ a. ⊎_elim (λ b. omega arith) (λ b. omega arith) (around n (v + (n - s)) (omega arith)))
    (λ a. ⊎_elim (λ b. omega arith) (λ b. omega arith) (around n (v + (n - s)) (omega arith)))
    (around n (p + s) (omega arith))

pub both_ends : (n p v s : ℕ) → p < n → v < n → s < n → ((p + s) % n == v) ≡ ((v + (n - s)) % n == p)
both_ends n p v s hp hv hs =
    ⊎_elim
    (λ e. e ∙ sym (eq-eqb ((v + (n - s)) % n) p (back n p v s hp hv hs (eqb-true ((p + s) % n) v e))))
    (λ e. e ∙ sym (ne_eqb ((v + (n - s)) % n) p (λ i. eqb-false ((p + s) % n) v e (forth n p v s hp hv hs i))))
    (cases_Bool ((p + s) % n == v))

-- other shifts lead elsewhere
pub on_apart : (n p s t : ℕ) → p < n → s < n → t < n → (p + s) % n ≡ (p + t) % n → s ≡ t
on_apart n p s t hp hs ht e =
    ⊎_elim
    (λ a. ⊎_elim (λ b. omega arith) (λ b. omega arith) (around n (p + t) (omega arith)))
    (λ a. ⊎_elim (λ b. omega arith) (λ b. omega arith) (around n (p + t) (omega arith)))
    (around n (p + s) (omega arith))

pub back_apart : (n v s t : ℕ) → v < n → s < n → t < n → (v + (n - s)) % n ≡ (v + (n - t)) % n → s ≡ t
back_apart n v s t hv hs ht e =
    ⊎_elim
    (λ a. ⊎_elim (λ b. omega arith) (λ b. omega arith) (around n (v + (n - t)) (omega arith)))
    (λ a. ⊎_elim (λ b. omega arith) (λ b. omega arith) (around n (v + (n - t)) (omega arith)))
    (around n (v + (n - s)) (omega arith))
