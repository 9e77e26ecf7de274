use Rattle.std.proofs.Common.{◌≡◌, ◌≤◌, length, subst, arith, rules, Option}
use Rattle.std.proofs.lemmas.List.{take_rest}
use Rattle.graph_files.specs.Files.{word}
use Rattle.codes.specs.Layouts.{Layout}
use Rattle.foreign.specs.Making.{Makes}
use Rattle.foreign.proofs.Making.{written_split}
use Rattle.foreign.proofs.told_codes.of_written.Goals as goal

pub returns : goal.returns
returns c =
    let n = c.from_be_bytes-qubits in
    let k = c.from_be_bytes-checks in
    let l = c.from_be_bytes-generators in
    let bytes = c.args.bytes.now in
    let long : 6 ≤ length bytes = search rules in
    let en : n.result ≡ word bytes 0 = omega (arith, n.ensures) in
    let ek : k.result ≡ word bytes 2 = omega (arith, k.ensures) in
    let el : l.result ≡ word bytes 4 = omega (arith, l.ensures) in
    subst (λ (o : Option Layout). Makes o c.of_rows.result) (written_split bytes n.result k.result l.result _ long en ek el (take_rest bytes 6)) c.of_rows.ensures
