use Rattle.std.proofs.Common.{length}
use Rattle.best_sets.proofs.+best_from.Given as goal

abbrev pub decreases-best_from : goal.decreases-best_from
decreases-best_from l = length l.rows.now
