use Rattle.foreign.proofs.told_codes.ToldCode.act.Goals as goal

pub returns-in-Cyclic : goal.returns-in-Cyclic
returns-in-Cyclic c = rw c.in-Cyclic.is c.on_graph-in-Cyclic.ensures
