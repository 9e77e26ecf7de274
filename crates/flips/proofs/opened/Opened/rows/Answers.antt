use Rattle.std.proofs.Common.{◌<◌, ◌++◌, ◌∷◌, [], length, get_or, take, sym, subst, arith}
use Rattle.std.proofs.lemmas.List.{take_more}
use Rattle.patterns.specs.Sets.{has}
use Rattle.flips.specs.Local.{Marks, Rows}
use Rattle.flips.proofs.Chosen.{rows_push}
use Rattle.flips.proofs.opened.Opened.rows.Goals as goal

pub loop-v-preserved : goal.loop-v-preserved
loop-v-preserved g c =
    let l = g.C.Code.layout c.args.self.now.code.now in
    let ds = c.args.checks.now in
    let xs = c.args.self.now.qubits.items in
    let i = c.loop-v.v-index in
    let here : i < length xs = subst (λ a. i < length a) c.deref-v-items.ensures.0 c.loop-v-test.true in
    let marks : Marks ds (has (l.checks_of (get_or xs i 0))) c.row.result = subst (λ a. Marks ds (has (l.checks_of (get_or a i 0))) c.row.result) c.deref-v-items.ensures.0 c.row.ensures in
    record {
      long = omega (arith, c.push.ensures.len, c.loop-v.invariant.long);
      is = subst (λ a. Rows l ds a c.push.new.self.items) (sym (take_more xs i 0 here)) (subst (Rows l ds (take i xs ++ get_or xs i 0 ∷ [])) (sym c.push.ensures.items) (rows_push l ds (take i xs) c.loop-v.rows.items (get_or xs i 0) c.row.result c.loop-v.invariant.is marks));
    }
