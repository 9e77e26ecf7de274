-- The graph that a value of `Matrix` stands for. Assumes nothing.
use Rattle.matrices.specs.Adjacent.{lists}
use Rattle.graphs.specs.Tanners.{Tanner}
use Rattle.graph_files.specs.declared.matrix.Matrix.{Matrix}
use Rattle.graph_files.specs.Listed.{listed_graph}

abbrev pub graph_of : Matrix → Tanner
graph_of g = listed_graph (lists g.edges.relation.rows.nodes) (lists g.edges.relation.columns.nodes)
