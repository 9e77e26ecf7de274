use Rattle.std.proofs.Common.{length, arith}
use Rattle.best_sets.proofs.Laws.{best_is_unbeaten}
use Rattle.best_sets.proofs.Steps.{room_at_start}
use Rattle.best_sets.proofs.best_choice.Goals as goal

pub best_from-requires-clause-few_sets : goal.best_from-requires-clause-few_sets
best_from-requires-clause-few_sets c = room_at_start (length c.args.rows.now) (omega arith)

pub returns-then-rows-gt-MOST_ROWS-clause-best : goal.returns-then-rows-gt-MOST_ROWS-clause-best
returns-then-rows-gt-MOST_ROWS-clause-best c = best_is_unbeaten

pub returns-clause-best : goal.returns-clause-best
returns-clause-best c = best_is_unbeaten
