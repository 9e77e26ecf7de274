use Rattle.products.proofs.Telling.{size_same}
use Rattle.products.proofs.product.ProductCode.check_size.Goals as goal

pub returns : goal.returns
returns g c = size_same c.args.u.0 c.size.ensures c.of_check.ensures.nodes c.of_check.ensures.rows
