-- What a call says of its result, where its error was wrapped before it was looked at. Assumes nothing.
use Rattle.std.proofs.Common.{◌≡◌, ℕ, Ok, Err, Result, MatchResult, subst, arith}
use Rattle.std.specs.Result.{IsErrAnd}

module _ {T E D : Type 0} (P : T → Type 0) (Q : E → Type 0) (post : E → D → Type 0) where
  pub ok_wrapped : (r : Result T E) (s : Result T D) (x : T) → MatchResult r P Q → MatchResult r (λ y. s ≡ Ok y) (λ e. IsErrAnd s (post e)) → s ≡ Ok x → P x
  ok_wrapped (Ok y) s x told is ok = let same : y ≡ x = cc in subst P same told
  ok_wrapped (Err e) s x told is ok = absurd (subst (λ t. IsErrAnd t (post e)) ok is)

  pub err_wrapped : (r : Result T E) (s : Result T D) (d : D) → MatchResult r P Q → MatchResult r (λ y. s ≡ Ok y) (λ e. IsErrAnd s (post e)) → s ≡ Err d → (e : E) × Q e × post e d
  err_wrapped (Ok y) s d told is bad = let z : ◌≡◌ {A = ℕ} 0 1 = cc in absurd (omega arith)
  err_wrapped (Err e) s d told is bad = (e, told, subst (λ t. IsErrAnd t (post e)) bad is)
