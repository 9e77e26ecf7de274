use Rattle.std.proofs.Common.{ℕ, ◌+◌, ◌<◌, get_or, take, drop, unwrap_or, sym, refl, ap, ◌∙◌, ap₂, arith}
use Rattle.std.proofs.lemmas.Result.{err_from_is_err_and}
use Rattle.refusals.specs.declared.Refusal.TheVariants.{OutOfMemory}
use Rattle.patterns.specs.Patterns.{width}
use Rattle.graph_files.specs.Files.{graph_in, graph_refusal}
use Rattle.job_files.specs.declared.faults.Fault.TheVariants.{Job, Graph}
use Rattle.job_files.specs.Faults.{of_job}
use Rattle.job_files.proofs.Asked.{answers_fault, fault_of_head, fault_of_graph, small_counts, size_is, asked, place_small}
use Rattle.job_files.proofs.Wrapped.{ok_wrapped, err_wrapped}
use Rattle.job_files.proofs.reading.read_job.Goals as goal

pub returns-in_err-head : goal.returns-in_err-head
returns-in_err-head c =
    let f = c.args.file.now in
    let d = c.in_err-head.field-0.0 in
    let e = err_wrapped _ _ _ c.read_head.result c.map_err.result d c.read_head.ensures c.map_err.ensures.cases c.in_err-head.was in
    let p = err_from_is_err_and c.from_residual.result c.from_residual.ensures.1 in
    rw (p.1, p.2) (answers_fault f d (Job e.0) e.2 (fault_of_head f e.0 e.1))

pub returns-in_err-asked : goal.returns-in_err-asked
returns-in_err-asked c =
    let f = c.args.file.now in
    let told = ok_wrapped _ _ _ c.read_head.result c.map_err.result c.in_ok-head.head c.read_head.ensures c.map_err.ensures.cases c.in_ok-head.was in
    let e = c.in_err-asked.field-0.0 in
    let p = err_from_is_err_and c.from_residual-in_err-asked.result c.from_residual-in_err-asked.ensures.1 in
    rw (p.1, p.2) (answers_fault f (Graph e) (Graph e) refl (fault_of_graph f told.0 e (ap graph_refusal (sym told.2.bytes) ∙ c.in_err-asked.ensures)))

pub of_product-requires-clause-variables_le_most_nodes : goal.of_product-requires-clause-variables_le_most_nodes
of_product-requires-clause-variables_le_most_nodes c =
    let says = c.in_ok-asked.ensures in
    omega (arith, says.1, (small_counts c.in_ok-head.head.graph.bytes.now says.0).0)

pub of_product-requires-clause-checks_le_most_nodes : goal.of_product-requires-clause-checks_le_most_nodes
of_product-requires-clause-checks_le_most_nodes c =
    let says = c.in_ok-asked.ensures in
    omega (arith, says.2, (small_counts c.in_ok-head.head.graph.bytes.now says.0).1)

pub read_patterns-requires : goal.read_patterns-requires
read_patterns-requires c =
    let f = c.args.file.now in
    let told = ok_wrapped _ _ _ c.read_head.result c.map_err.result c.in_ok-head.head c.read_head.ensures c.map_err.ensures.cases c.in_ok-head.was in
    let bytes : (i : ℕ) → get_or f i 0 < 256 = λ i. omega (arith, c.type_inv.file i) in
    omega (arith, size_is f c.in_ok-head.head.graph.bytes.now told.0 told.2.bytes, place_small f bytes)

pub returns-in_err-patterns : goal.returns-in_err-patterns
returns-in_err-patterns c =
    let f = c.args.file.now in
    let head = c.in_ok-head.head in
    let h = c.in_ok-asked.asked in
    let told = ok_wrapped _ _ _ c.read_head.result c.map_err.result c.in_ok-head.head c.read_head.ensures c.map_err.ensures.cases c.in_ok-head.was in
    let says = c.in_ok-asked.ensures in
    let is = asked f head.graph.bytes.now h.matrix.columns h.matrix.rows c.of_product.result.checks c.of_product.result.qubits told.0 told.2.bytes says.0 says.1 says.2 c.of_product.ensures.checks c.of_product.ensures.qubits in
    let d = c.in_err-patterns.field-0.0 in
    let e = err_wrapped _ _ _ c.read_patterns.result c.map_err-2.result d c.read_patterns.ensures c.map_err-2.ensures.cases c.in_err-patterns.was in
    let p = err_from_is_err_and c.from_residual-in_err-patterns.result c.from_residual-in_err-patterns.ensures.1 in
    rw (p.1, p.2) (answers_fault f d (Job e.0) e.2 (is.fault ∙ ap of_job e.1))

pub returns-in_err-graph : goal.returns-in_err-graph
returns-in_err-graph c =
    let f = c.args.file.now in
    let head = c.in_ok-head.head in
    let h = c.in_ok-asked.asked in
    let told = ok_wrapped _ _ _ c.read_head.result c.map_err.result c.in_ok-head.head c.read_head.ensures c.map_err.ensures.cases c.in_ok-head.was in
    let says = c.in_ok-asked.ensures in
    let is = asked f head.graph.bytes.now h.matrix.columns h.matrix.rows c.of_product.result.checks c.of_product.result.qubits told.0 told.2.bytes says.0 says.1 says.2 c.of_product.ensures.checks c.of_product.ensures.qubits in
    let cuts = ok_wrapped _ _ _ c.read_patterns.result c.map_err-2.result c.in_ok-patterns.patterns c.read_patterns.ensures c.map_err-2.ensures.cases c.in_ok-patterns.was in
    let p = err_from_is_err_and c.from_residual-in_err-graph.result c.from_residual-in_err-graph.ensures.1 in
    let memory = c.in_err-graph.ensures ∙ ap (λ x. unwrap_or x OutOfMemory) says.0 in
    let accepted = is.fault ∙ ap of_job cuts.0 in
    rw (p.1, p.2) (ap Graph memory ∙ sym (ap (λ x. unwrap_or x (Graph OutOfMemory)) accepted))

pub returns : goal.returns
returns c =
    let f = c.args.file.now in
    let head = c.in_ok-head.head in
    let h = c.in_ok-asked.asked in
    let told = ok_wrapped _ _ _ c.read_head.result c.map_err.result c.in_ok-head.head c.read_head.ensures c.map_err.ensures.cases c.in_ok-head.was in
    let says = c.in_ok-asked.ensures in
    let is = asked f head.graph.bytes.now h.matrix.columns h.matrix.rows c.of_product.result.checks c.of_product.result.qubits told.0 told.2.bytes says.0 says.1 says.2 c.of_product.ensures.checks c.of_product.ensures.qubits in
    let cuts = ok_wrapped _ _ _ c.read_patterns.result c.map_err-2.result c.in_ok-patterns.patterns c.read_patterns.ensures c.map_err-2.ensures.cases c.in_ok-patterns.was in
    let made = c.in_ok-graph.ensures in
    let after = ap₂ (λ at k. at + width k) is.size is.checks in
    record {
      accepted = is.fault ∙ ap of_job cuts.0;
      side = told.1;
      graph = made.1 ∙ ap graph_in told.2.bytes;
      graph_bytes = told.2;
      syndrome = record { place = cuts.1.place ∙ is.size; bytes = cuts.1.bytes ∙ ap₂ (λ at k. take (width k) (drop at f)) is.size is.checks };
      erasure = record { place = cuts.2.place ∙ after; bytes = cuts.2.bytes ∙ ap₂ (λ at k. take (width k) (drop at f)) after is.qubits };
    }
