use Rattle.products.specs.Evens.{block_rows}
use Rattle.products.proofs.product.Product.of.Goals as goal

pub returns-clause-matrices : goal.returns-clause-matrices
returns-clause-matrices g c =
    let t = g.G.Graph.tanner c.args.graph in
    let w = g.met.G.Graph.wired c.args.graph in
    block_rows t t w w
