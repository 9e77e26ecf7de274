-- A text that is written where there is just the room for it. Assumes nothing.
use Rattle.std.proofs.Common.{◌≡◌, ℕ, List, ◌++◌, length, ap, ◌∙◌, arith}
use Rattle.std.proofs.lemmas.List.{append-nil, drop_all}
use Rattle.refusals.specs.Outputs.{written}
use Rattle.refusals.proofs.Writing.{written_room}

pub written_whole : (text out : List ℕ) → length out ≡ length text → written text out ≡ text
written_whole text out same =
    written_room text out (omega arith)
    ∙ ap (λ x. text ++ x) (drop_all (length text) out (omega arith))
    ∙ append-nil text
