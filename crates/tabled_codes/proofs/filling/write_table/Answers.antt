use Rattle.std.proofs.Common.{rules, ℕ, Ok, ap, length, vec_items, ◌∙◌, arith}
use Rattle.std.proofs.lemmas.Iterator.{YieldsList-from_map_by}
use Rattle.std.proofs.lemmas.Iterator.Consumers.{map_from_collect}
use Rattle.std.proofs.lemmas.List.{length-map}
use Rattle.std.proofs.lemmas.List.FromFn.{length-map-range_with_len}
use Rattle.matrices.specs.Relations.{neighbours}
use Rattle.patterns.proofs.Ranges.{numbers_below}
use Rattle.tabled_codes.proofs.Writing.{rows_written}
use Rattle.tabled_codes.proofs.filling.write_table.Goals as goal

pub invariant_of-result : goal.invariant_of-result
invariant_of-result g c =
    let m = g.F.Family.nodes c.args.family in
    let row = neighbours m (g.F.Family.rows c.args.family) in
    let nodes = c.in_ok-nodes.nodes in
    let told = map_from_collect {E = ℕ} {v = λ r. r.items} (Ok nodes) c.in_ok-nodes.ensures.ran
    (YieldsList-from_map_by _ (λ r. r.items) row (numbers_below m (cc)) c.map.ensures.closure (λ x r q k. search rules)) in
    record { few = omega (arith, length-map (vec_items nodes) (λ r. r.items), ap length told, length-map-range_with_len row 0 m, c.requires.few) }

pub returns : goal.returns
returns g c =
    let m = g.F.Family.nodes c.args.family in
    let rows = g.F.Family.rows c.args.family in
    map_from_collect {E = ℕ} {v = λ r. r.items} (Ok c.in_ok-nodes.nodes) c.in_ok-nodes.ensures.ran
    (YieldsList-from_map_by _ (λ r. r.items) (neighbours m rows) (numbers_below m (cc)) c.map.ensures.closure (λ x r q k. search rules))
    ∙ rows_written m rows
