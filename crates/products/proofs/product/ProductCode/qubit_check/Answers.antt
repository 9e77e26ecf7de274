use Rattle.std.proofs.Common.{ap, ◌∙◌}
use Rattle.std.specs.Option.{option_map}
use Rattle.products.proofs.Telling.{neighbour_same}
use Rattle.products.proofs.product.ProductCode.qubit_check.Goals as goal

pub returns-in_err-u : goal.returns-in_err-u
returns-in_err-u g c = ap (option_map (λ x. x.0)) c.from_residual.ensures ∙ neighbour_same c.args.v.0 c.args.k c.in_err-u.ensures c.by_check-qubits.ensures.nodes c.by_check-qubits.ensures.rows

pub returns : goal.returns
returns g c = neighbour_same c.args.v.0 c.args.k c.in_ok-u.ensures c.by_check-qubits.ensures.nodes c.by_check-qubits.ensures.rows
