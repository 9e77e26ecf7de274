-- Codes that were made of what tells them. Assumes nothing.
use Rattle.std.specs.Prelude.{◌≡◌, cond, ◌==◌, Some, None, Option, Result, MatchResult}
use Rattle.refusals.specs.declared.Refusal.{Refusal}
use Rattle.refusals.specs.Questions.{number}
use Rattle.graphs.specs.Cycles.{cyclic}
use Rattle.graph_files.specs.Held.{graph_of}
use Rattle.codes.specs.Layouts.{Layout}
use Rattle.written_codes.specs.Held.{code_of}
use Rattle.foreign.specs.declared.kinds.Shape.TheVariants.{Product}
use Rattle.foreign.specs.declared.not_done.NotDone.{NotDone}
use Rattle.foreign.specs.declared.not_done.NotDone.TheVariants.{NoSuchCode, NoMemory}
use Rattle.foreign.specs.declared.told_codes.ToldCode.{ToldCode}
use Rattle.foreign.specs.declared.told_codes.ToldCode.TheVariants.{File, Cyclic, Written}
use Rattle.foreign.specs.Told.{shaped}

-- the code that was made
abbrev pub layout_of : ToldCode → Layout
layout_of (File s g) = shaped s (graph_of g)
layout_of (Cyclic g) = shaped Product (cyclic g.count g.shifts.items)
layout_of (Written w) = code_of w

-- where a graph or a code was refused none is told, or there was no memory
abbrev pub not_made : Refusal → NotDone
not_made e = cond (number e == 0) NoMemory NoSuchCode

-- none was made: none is told, or there was no memory
abbrev pub Fails : Option Layout → NotDone → Type 0
Fails o NoSuchCode = o ≡ None
Fails o NoMemory = Unit {0}

-- the code that may be told was made, if it was told
abbrev pub Makes : Option Layout → Result ToldCode NotDone → Type 0
Makes o r = MatchResult r (λ c. o ≡ Some (layout_of c)) (Fails o)
