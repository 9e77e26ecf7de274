-- What a writer answers and leaves, where there is room and where there is none. Assumes nothing.
use Rattle.std.proofs.Common.{◌≡◌, ℕ, ◌<◌, ◌≤◌, List, ◌++◌, length, drop, Ok, Err, arith}
use Rattle.std.proofs.lemmas.Grind.{common_steps}
use Rattle.refusals.specs.declared.Refusal.TheVariants.{OutputTooShort}
use Rattle.refusals.specs.Outputs.{answered, written}

module _ (bytes out : List ℕ) where
  module _ (enough : length bytes ≤ length out) where
    pub answered_room : answered bytes out ≡ Ok (length bytes)
    answered_room = grind (arith, common_steps)

    pub written_room : written bytes out ≡ bytes ++ drop (length bytes) out
    written_room = grind (arith, common_steps)

  module _ (short : length out < length bytes) where
    pub answered_short : answered bytes out ≡ Err OutputTooShort
    answered_short = grind (arith, common_steps)

    pub written_short : written bytes out ≡ out
    written_short = grind (arith, common_steps)
