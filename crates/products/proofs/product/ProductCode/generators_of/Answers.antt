use Rattle.products.proofs.Telling.{size_same}
use Rattle.products.proofs.product.ProductCode.generators_of.Goals as goal

pub returns : goal.returns
returns g c = size_same c.args.v.0 c.size.ensures c.by_generator.ensures.nodes c.by_generator.ensures.rows
