use Rattle.std.proofs.Common.{rules}
use Rattle.reports.specs.RefusalLines.{refusal_line}
use Rattle.reports.proofs.refusal_line.refusal_line.Goals as goal

pub returns : goal.returns
unfolding refusal_line
returns c = search rules
