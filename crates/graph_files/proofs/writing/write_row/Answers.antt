use Rattle.std.proofs.Common.{replicate, ltb, [], sym, ap, ◌∙◌}
use Rattle.std.proofs.lemmas.Bool.{cond-true, lt-ltb}
use Rattle.patterns.specs.Patterns.{toggled_all}
use Rattle.matrices.proofs.Walks.{rest}
use Rattle.graph_files.proofs.Rowing.{row_none}
use Rattle.graph_files.proofs.writing.write_row.Goals as goal

pub loop-v-init : goal.loop-v-init
loop-v-init g c =
    let t = g.G.Graph.tanner c.args.graph.now in
    let p = c.args.p.0 in
    let walk = rest (λ f. (g.G.Graph.tanner f.graph.now).checks) (λ f. (g.G.Graph.tanner f.graph.now).of_check) in
    ap (λ s. toggled_all c.fill.new.self (walk s)) (c.into_iter-v-iterator.ensures.into_iter_gives ∙ c.of-v-items.ensures)
    ∙ ap (toggled_all c.fill.new.self) (cond-true (ltb p t.checks) (t.of_check p) [] (lt-ltb p t.checks c.requires.p_bound))
    ∙ row_none t p (g.met.G.Graph.wired c.args.graph.now) c.requires.p_bound c.fill.new.self (c.fill.ensures.after (λ y e. e) ∙ ap (λ n. replicate n 0) c.requires.row_len)

pub loop-v-preserved : goal.loop-v-preserved
loop-v-preserved g c =
    let walk = rest (λ f. (g.G.Graph.tanner f.graph.now).checks) (λ f. (g.G.Graph.tanner f.graph.now).of_check) in
    ap (λ row. toggled_all row (walk c.next.new.self)) c.toggle.ensures.after ∙ sym (ap (toggled_all c.loop-v.row) c.in-Some.ensures.steps) ∙ c.loop-v.invariant

pub returns : goal.returns
returns g c = sym (ap (toggled_all c.loop-v.row) c.in-None.ensures.steps.0) ∙ c.loop-v.invariant
