use Rattle.products.proofs.Telling.{size_same}
use Rattle.products.proofs.product.ProductCode.checks_of.Goals as goal

pub returns : goal.returns
returns g c = size_same c.args.v.0 c.size.ensures c.by_check.ensures.nodes c.by_check.ensures.rows
