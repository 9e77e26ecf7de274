use Rattle.std.proofs.Common.{◌≡◌}
use Rattle.patterns.specs.Patterns.{toggled_all}
use Rattle.matrices.specs.Relations.{neighbours}
use Rattle.codes.proofs.Walks.{rest_by_check}
use Rattle.moves.proofs.changes.toggle_checks.Given as goal

abbrev pub invariant-loop-u : goal.invariant-loop-u
invariant-loop-u g l =
    let c = g.C.Code.layout l.code in
    toggled_all l.remaining (rest_by_check g.C.Code.layout l.u-iterator) ≡ toggled_all l.fn.remaining (neighbours c.qubits c.checks_of l.fn.v.0)
