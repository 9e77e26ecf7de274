use Rattle.decoding.proofs.WellFormed.{well_formed_decode}
use Rattle.decoding.proofs.jobs_of_codes.decode.Goals as goal

-- the same at each of the four ends: `using` on the function was tried, and the search does not find that the layout is sound

pub returns-in_err-remaining-clause-well_formed : goal.returns-in_err-remaining-clause-well_formed
returns-in_err-remaining-clause-well_formed g c = well_formed_decode g.C.Code.LETTER (g.C.Code.layout c.args.code.now) (g.met.C.Code.sound c.args.code.now)

pub returns-in_err-opened-clause-well_formed : goal.returns-in_err-opened-clause-well_formed
returns-in_err-opened-clause-well_formed g c = well_formed_decode g.C.Code.LETTER (g.C.Code.layout c.args.code.now) (g.met.C.Code.sound c.args.code.now)

pub returns-in_err-correction-clause-well_formed : goal.returns-in_err-correction-clause-well_formed
returns-in_err-correction-clause-well_formed g c = well_formed_decode g.C.Code.LETTER (g.C.Code.layout c.args.code.now) (g.met.C.Code.sound c.args.code.now)

pub returns-clause-well_formed : goal.returns-clause-well_formed
returns-clause-well_formed g c = well_formed_decode g.C.Code.LETTER (g.C.Code.layout c.args.code.now) (g.met.C.Code.sound c.args.code.now)
