use Rattle.std.proofs.Common.{◌<◌, sym, subst}
use Rattle.std.specs.List.{All}
use Rattle.patterns.specs.Patterns.{member}
use Rattle.best_sets.specs.Rising.{Rising}
use Rattle.flips.proofs.Ordered.{rises_open, open_within}
use Rattle.flips.proofs.opened.Opened.of.Goals as goal

pub invariant_of-result : goal.invariant_of-result
invariant_of-result g c =
    let l = g.C.Code.layout c.args.code.now in
    let s = member c.args.opened.now in
    record {
      rising = subst Rising (sym c.open_qubits.ensures) (rises_open l s c.args.g.0);
      in_range = subst (All (λ v. v < l.qubits)) (sym c.open_qubits.ensures) (open_within l s c.args.g.0);
    }
