use Rattle.std.proofs.Common.{length, sym, ap, subst, ◌∙◌}
use Rattle.moves.specs.Jobs.{Model}
use Rattle.moves.specs.Held.{model}
use Rattle.foreign.specs.declared.numbers.Numbers.{Numbers}
use Rattle.foreign.specs.Numbering.{model_of}
use Rattle.foreign.specs.Making.{layout_of}
use Rattle.foreign.proofs.Lengths.{Kept, done_kept}
use Rattle.foreign.proofs.kept.Kept.act.Goals as goal
use Rattle.foreign.proofs.kept.Kept.act.Goals.{After-act-numbers}

-- the task keeps the lengths of the copies
kept : (c : After-act-numbers) → Kept (model_of c.as_mut_slice.result.now c.as_mut_slice-2.result.now c.as_mut_slice-3.result.now c.args.self.moves.now) (model c.act-numbers.new.job)
kept c =
    let m = model_of c.as_mut_slice.result.now c.as_mut_slice-2.result.now c.as_mut_slice-3.result.now c.args.self.moves.now in
    subst (λ (x : Numbers × Model). Kept m x.1) (sym c.act-numbers.ensures) (done_kept (layout_of c.in_ok-code.code) m c.args.task)

pub copy_from_slice-requires : goal.copy_from_slice-requires
copy_from_slice-requires c = ap length (sym (c.as_mut_slice.ensures.value ∙ c.in_ok-left.ensures.items)) ∙ (kept (goal.at.copy_from_slice-requires c).After-act-numbers).remaining

pub copy_from_slice-requires-2 : goal.copy_from_slice-requires-2
copy_from_slice-requires-2 c = ap length (sym (c.as_mut_slice-2.ensures.value ∙ c.in_ok-open.ensures.items)) ∙ (kept (goal.at.copy_from_slice-requires-2 c).After-act-numbers).opened

pub copy_from_slice-requires-3 : goal.copy_from_slice-requires-3
copy_from_slice-requires-3 c = ap length (sym (c.as_mut_slice-3.ensures.value ∙ c.in_ok-changed.ensures.items)) ∙ (kept (goal.at.copy_from_slice-requires-3 c).After-act-numbers).correction
