-- Calls that write bytes at the front of the caller's output. Assumes nothing.
use Rattle.std.specs.Prelude.{ℕ, Bool, cond, List, ◌++◌, length, drop, Ok, Err, Result, nat_le}
use Rattle.refusals.specs.declared.Refusal.{Refusal}
use Rattle.refusals.specs.declared.Refusal.TheVariants.{OutputTooShort}

-- whether the output is long enough for the bytes
abbrev pub room : List ℕ → List ℕ → Bool
room bytes out = nat_le (length bytes) (length out)

-- the answer: how many bytes were written, or that the output is too short
abbrev pub answered : List ℕ → List ℕ → Result ℕ Refusal
answered bytes out = cond (room bytes out) (Ok (length bytes)) (Err OutputTooShort)

-- the output then: the bytes and what followed them, or what it was
abbrev pub written : List ℕ → List ℕ → List ℕ
written bytes out = cond (room bytes out) (bytes ++ drop (length bytes) out) out
