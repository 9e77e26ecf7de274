use Rattle.std.proofs.Common.{rules}
use Rattle.std.proofs.lemmas.List.{take_rest}
use Rattle.graph_files.proofs.reading.read_head.Goals as goal

pub returns : goal.returns
returns c = (search rules, search rules, search rules, take_rest c.args.file.now 9)
