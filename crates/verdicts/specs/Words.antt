-- The verdicts of a job and their words. Assumes nothing.
use Rattle.std.specs.Prelude.{List, ℕ, codes}
use Rattle.verdicts.specs.declared.Verdict.{Verdict}
use Rattle.verdicts.specs.declared.Verdict.TheVariants.{Contradicted, Settled, Moving, Matched, Stalled}

-- the word of each verdict, as bytes
abbrev pub word : Verdict → List ℕ
word Contradicted = codes "contradicted"
word Settled = codes "settled"
word Moving = codes "moving"
word Matched = codes "matched"
word Stalled = codes "stalled"
