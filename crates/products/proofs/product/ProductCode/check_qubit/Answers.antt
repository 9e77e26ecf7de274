use Rattle.std.proofs.Common.{ap, ◌∙◌}
use Rattle.std.specs.Option.{option_map}
use Rattle.products.proofs.Telling.{neighbour_same}
use Rattle.products.proofs.product.ProductCode.check_qubit.Goals as goal

pub returns-in_err-v : goal.returns-in_err-v
returns-in_err-v g c = ap (option_map (λ x. x.0)) c.from_residual.ensures ∙ neighbour_same c.args.u.0 c.args.k c.in_err-v.ensures c.of_check-checks.ensures.nodes c.of_check-checks.ensures.rows

pub returns : goal.returns
returns g c = neighbour_same c.args.u.0 c.args.k c.in_ok-v.ensures c.of_check-checks.ensures.nodes c.of_check-checks.ensures.rows
