use Rattle.std.proofs.Common.{drop}
use Rattle.patterns.specs.Sets.{◌⊕◌, has, Apart}
use Rattle.matrices.specs.Relations.{neighbours}
use Rattle.flips.specs.Local.{Marks}
use Rattle.flips.proofs.marks.row.Given as goal

abbrev pub invariant-loop-u : goal.invariant-loop-u
invariant-loop-u g l =
    let it = l.u-iterator in
    let c = g.C.Code.layout it.family.code.now in
    let rest = drop it.next (neighbours c.qubits c.checks_of it.node) in
    let row = (g.C.Code.layout l.fn.code).checks_of l.fn.v.0 in
    record { apart : Apart rest; marks : Marks l.checks (λ w. has row w ⊕ has rest w) l.words }
