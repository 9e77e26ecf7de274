use Rattle.std.proofs.Common.{ℕ, ◌<◌, get_or, unwrap_or, sym, ap, ◌∙◌, arith}
use Rattle.std.proofs.lemmas.Result.{MatchResult-weaker}
use Rattle.refusals.specs.declared.Refusal.TheVariants.{OutOfMemory}
use Rattle.graph_files.specs.Files.{file_of}
use Rattle.graph_files.proofs.Heads.{heads_asked, rows_tell}
use Rattle.graph_files.proofs.RoundTrips.{read_is_written}
use Rattle.graph_files.proofs.reading.read_graph.Goals as goal

pub returns : goal.returns
returns c =
    let f = c.args.file.now in
    let h = c.in_ok-ask_graph.field-0 in
    let told = c.in_ok-ask_graph.ensures in
    let bytes : (i : ℕ) → get_or f i 0 < 256 = λ i. omega (arith, c.type_inv.file i) in
    let tells = rows_tell f h.matrix.bytes.now h.matrix.rows h.matrix.columns (heads_asked f told.0) told.1 told.2 told.3 in
    MatchResult-weaker c.build.result c.build.ensures
    (λ g is. (told.0, is ∙ tells, ap file_of (is ∙ tells) ∙ read_is_written f bytes told.0))
    (λ e is. is ∙ sym (ap (λ r. unwrap_or r OutOfMemory) told.0))
