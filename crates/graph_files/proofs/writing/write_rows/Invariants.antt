use Rattle.std.proofs.Common.{◌≡◌, ◌*◌, take}
use Rattle.graph_files.specs.Files.{rows_of}
use Rattle.graph_files.proofs.writing.write_rows.Given as goal

abbrev pub invariant-loop-p : goal.invariant-loop-p
invariant-loop-p g l = take (l.width * l.p) l.rows ≡ rows_of (g.G.Graph.tanner l.graph) l.p
