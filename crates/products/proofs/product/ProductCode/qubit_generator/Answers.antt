use Rattle.std.proofs.Common.{ap, ◌∙◌}
use Rattle.std.specs.Option.{option_map}
use Rattle.products.proofs.Telling.{neighbour_same}
use Rattle.products.proofs.product.ProductCode.qubit_generator.Goals as goal

pub returns-in_err-g : goal.returns-in_err-g
returns-in_err-g g c = ap (option_map (λ x. x.0)) c.from_residual.ensures ∙ neighbour_same c.args.v.0 c.args.k c.in_err-g.ensures c.by_generator-qubits.ensures.nodes c.by_generator-qubits.ensures.rows

pub returns : goal.returns
returns g c = neighbour_same c.args.v.0 c.args.k c.in_ok-g.ensures c.by_generator-qubits.ensures.nodes c.by_generator-qubits.ensures.rows
