use Rattle.std.proofs.Common.{◌≤◌, length, subst, arith, ltb-false, Option}
use Rattle.std.proofs.lemmas.List.{take_rest}
use Rattle.codes.specs.Layouts.{Layout}
use Rattle.foreign.specs.Making.{Makes}
use Rattle.foreign.proofs.Making.{cyclic_split}
use Rattle.foreign.proofs.told_codes.of_cyclic.Goals as goal

pub returns : goal.returns
returns c =
    let long : 1 ≤ length c.args.bytes.now = omega (arith, ltb-false) in
    subst (λ (o : Option Layout). Makes o c.of_shifts.result) (cyclic_split c.args.bytes.now c.from.result _ long c.from.ensures (take_rest c.args.bytes.now 1)) c.of_shifts.ensures
