use Rattle.products.proofs.Telling.{size_same}
use Rattle.products.proofs.product.ProductCode.generator_size.Goals as goal

pub returns : goal.returns
returns g c = size_same c.args.g.0 c.size.ensures c.of_generator.ensures.nodes c.of_generator.ensures.rows
