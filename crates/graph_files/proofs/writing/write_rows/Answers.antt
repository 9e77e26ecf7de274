use Rattle.std.proofs.Common.{◌≡◌, ◌+◌, ◌-◌, ◌*◌, ◌≤◌, length, sym, ap, ◌∙◌, mul_comm, arith}
use Rattle.std.proofs.lemmas.List.{take_all}
use Rattle.patterns.specs.Patterns.{width}
use Rattle.graph_files.specs.Files.{rows_of}
use Rattle.graph_files.proofs.Rowing.{row_room, rows_more}
use Rattle.graph_files.proofs.writing.write_rows.Goals as goal

pub slice_bounds-write_row-end : goal.slice_bounds-write_row-end
slice_bounds-write_row-end g c =
    let t = g.G.Graph.tanner c.args.graph.now in
    let w = c.width-width.result in
    let wide : w ≡ width t.variables = c.width-width.ensures ∙ ap width c.variables.ensures in
    let all : length c.loop-p.rows ≡ t.checks * w = c.loop-p.auto.rows ∙ c.requires ∙ ap (λ k. t.checks * k) (sym wide) in
    row_room w c.loop-p.p t.checks (length c.loop-p.rows) (omega arith) all

pub loop-p-preserved : goal.loop-p-preserved
loop-p-preserved g c =
    let t = g.G.Graph.tanner c.args.graph.now in
    let w = c.width-width.result in
    let wide : w ≡ width t.variables = c.width-width.ensures ∙ ap width c.variables.ensures in
    let all : length c.loop-p.rows ≡ t.checks * w = c.loop-p.auto.rows ∙ c.requires ∙ ap (λ k. t.checks * k) (sym wide) in
    let room : w * c.loop-p.p + w ≤ length c.loop-p.rows = row_room w c.loop-p.p t.checks (length c.loop-p.rows) (omega arith) all in
    rows_more t c.loop-p.p w (w * c.loop-p.p + w - w * c.loop-p.p) c.loop-p.rows c.write_row.new.row wide (omega arith) c.write_row.ensures c.loop-p.invariant

pub returns : goal.returns
returns g c =
    let t = g.G.Graph.tanner c.args.graph.now in
    let w = c.width-width.result in
    let wide : w ≡ width t.variables = c.width-width.ensures ∙ ap width c.variables.ensures in
    let all : length c.loop-p.rows ≡ t.checks * w = c.loop-p.auto.rows ∙ c.requires ∙ ap (λ k. t.checks * k) (sym wide) in
    let last : c.loop-p.p ≡ t.checks = omega arith in
    let past : length c.loop-p.rows ≤ w * c.loop-p.p = omega (arith, ap (λ k. w * k) last, mul_comm w t.checks) in
    sym (take_all (w * c.loop-p.p) c.loop-p.rows past) ∙ c.loop-p.invariant ∙ ap (rows_of t) last
