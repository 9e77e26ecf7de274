use Rattle.tabled_codes.proofs.Telling.{same_qubits, sound_laid, laid_same}
use Rattle.tabled_codes.proofs.tables.Tables.of.Goals as goal

pub invariant_of-result : goal.invariant_of-result
invariant_of-result g c =
    let code = c.args.code.now in
    let l = g.C.Code.layout code in
    let s = g.met.C.Code.sound code in
    let checks = c.in_ok-checks.checks in
    let generators = c.in_ok-generators.generators in
    let by_check = c.in_ok-by_check.by_check in
    let by_generator = c.in_ok-by_generator.by_generator in
    let h = c.in_ok-checks.ensures in
    let k = c.in_ok-generators.ensures in
    let x = c.in_ok-by_check.ensures in
    let z = c.in_ok-by_generator.ensures in
    record {
      same_qubits = same_qubits l s checks generators by_check by_generator h k x z;
      sound = λ rest. ∣ sound_laid l s checks generators by_check by_generator h k x z rest ∣₁;
    }

pub returns : goal.returns
returns g c =
    let code = c.args.code.now in
    laid_same (g.C.Code.layout code) (g.met.C.Code.sound code)
    c.in_ok-checks.checks c.in_ok-generators.generators c.in_ok-by_check.by_check c.in_ok-by_generator.by_generator
    c.in_ok-checks.ensures c.in_ok-generators.ensures c.in_ok-by_check.ensures c.in_ok-by_generator.ensures
