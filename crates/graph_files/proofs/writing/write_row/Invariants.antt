use Rattle.std.proofs.Common.{◌≡◌}
use Rattle.patterns.specs.Patterns.{toggled_all}
use Rattle.matrices.proofs.Walks.{rest}
use Rattle.graph_files.specs.Files.{row_of}
use Rattle.graph_files.proofs.writing.write_row.Given as goal

abbrev pub invariant-loop-v : goal.invariant-loop-v
invariant-loop-v g l =
    toggled_all l.row (rest (λ f. (g.G.Graph.tanner f.graph.now).checks) (λ f. (g.G.Graph.tanner f.graph.now).of_check) l.v-iterator)
    ≡ row_of (g.G.Graph.tanner l.graph) l.fn.p.0
