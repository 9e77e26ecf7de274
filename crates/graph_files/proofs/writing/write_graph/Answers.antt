use Rattle.std.proofs.Common.{◌≡◌, ◌+◌, ◌-◌, ◌*◌, ◌<◌, ◌≤◌, ◌++◌, length, Ok, sym, refl, ap, ◌∙◌, ap₂, arith}
use borrow.Rule.Slice.PartMut.{put_mid, post_of}
use Rattle.std.proofs.lemmas.List.{length-append}
use Rattle.refusals.proofs.Writing.{answered_room, written_room, answered_short, written_short}
use Rattle.patterns.specs.Patterns.{width}
use Rattle.graph_files.specs.Files.{head_of, rows_of, file_of}
use Rattle.graph_files.proofs.Rowing.{length_file, file_placed}
use Rattle.graph_files.proofs.RoundTrips.{written_is_read}
use Rattle.graph_files.proofs.writing.write_graph.Goals as goal

pub returns-then-out-size : goal.returns-then-out-size
returns-then-out-size g c =
    let t = g.G.Graph.tanner c.args.graph.now in
    let out = c.args.out.now in
    let size : c.checks-checks.result * c.width.result ≡ t.checks * width t.variables = ap₂ ◌*◌ c.checks-checks.ensures (c.width.ensures ∙ ap width c.variables-variables.ensures) in
    let short : length out < length (file_of t) = omega (arith, length_file t) in
    record {
      value = sym (answered_short (file_of t) out short);
      after = sym (written_short (file_of t) out short);
      reads_back = written_is_read t (g.met.G.Graph.wired c.args.graph.now);
    }

pub returns : goal.returns
unfolding file_of
returns g c =
    let t = g.G.Graph.tanner c.args.graph.now in
    let out = c.args.out.now in
    let size : c.checks-checks.result * c.width.result ≡ t.checks * width t.variables = ap₂ ◌*◌ c.checks-checks.ensures (c.width.ensures ∙ ap width c.variables-variables.ensures) in
    let enough : length (file_of t) ≤ length out = omega (arith, length_file t) in
    let head = head_of t.variables t.checks in
    let rows = rows_of t t.checks in
    let k = 9 + c.checks-checks.result * c.width.result - 9 in
    record {
      value = ap Ok (ap (λ n. 9 + n) size ∙ sym (length_file t)) ∙ sym (answered_room (file_of t) out enough);
      after = ap₂ (λ x y. put_mid 9 k (x ++ post_of 0 9 out) y) (c.write_head.ensures ∙ ap₂ head_of c.variables-variables.ensures c.checks-checks.ensures) c.write_rows.ensures
          ∙ file_placed head rows out k refl (omega (arith, length_file t, length-append head rows))
          ∙ sym (written_room (file_of t) out enough);
      reads_back = written_is_read t (g.met.G.Graph.wired c.args.graph.now);
    }
