-- The worked examples hold: one evaluation of the whole list. Assumes nothing.
use Rattle.std.proofs.Common.{◌≡◌, List, [], ◌∷◌, map, refl}
use Rattle.std.specs.List.{AllByRecursion}
use Rattle.patterns.specs.Patterns.{member, tidy, pattern, added, byte_weight}
use Rattle.graph_files.specs.Files.{file_of, graph_refusal}
use Rattle.best_sets.specs.Best.{best_set, lowering}
use Rattle.worked.specs.Examples.{Example, ◌gives◌, Found, outcome, examples, Holds, AllHold}

-- what comes out of an example
abbrev computed : Example → Found
computed (a gives f) = outcome a

-- what is said to come out
abbrev stated : Example → Found
stated (a gives f) = f

-- where a list comes out as it is stated, each of its examples holds
one_by_one : (es : List Example) → map computed es ≡ map stated es → AllByRecursion Holds es
one_by_one [] h = tt
one_by_one ((a gives f) ∷ es) h = (cc, one_by_one es (cc))

-- the list comes out as it is stated
pub all_hold : AllHold
unfolding AllHold member tidy pattern added byte_weight file_of graph_refusal best_set lowering
all_hold = one_by_one examples refl
