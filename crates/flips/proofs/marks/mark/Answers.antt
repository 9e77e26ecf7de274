use Rattle.std.proofs.Common.{◌/◌, ◌%◌, get_or, set, ap, arith}
use lib.Bits.{bit_xor}
use Rattle.std.proofs.lemmas.Nat.{one_shl}
use Rattle.flips.specs.Local.{marked}
use Rattle.flips.proofs.marks.mark.Goals as goal

pub returns : goal.returns
unfolding marked
returns c =
    let ws = c.args.words.now in
    let j = c.args.j in
    ap (λ p. set ws (j / 64) (bit_xor (get_or ws (j / 64) 0) p)) (one_shl (j % 64) 64 (omega arith))
