-- Lines of words and values. Assumes nothing.
use Rattle.std.specs.Prelude.{ℕ, ◌+◌, ◌*◌, List, [], ◌∷◌, ◌++◌, length}
use Rattle.patterns.specs.Hex.{hexed}
use Rattle.reports.specs.declared.pattern_line.PatternLine.{PatternLine}

-- values, each after a space, and the end of the line
abbrev pub spaced : List (List ℕ) → List ℕ
spaced [] = 10 ∷ []
spaced (v ∷ vs) = 32 ∷ (v ++ spaced vs)

-- a line: a word and its values
abbrev pub line : List ℕ → List (List ℕ) → List ℕ
line word values = word ++ spaced values

-- the line of a word, which ends with a space, and of the bytes of a pattern: how many bytes it has, and which
abbrev pub line_size : PatternLine → ℕ
line_size p = length p.word.now + (2 * length p.bytes.now + 1)

abbrev pub line_text : PatternLine → List ℕ
line_text p = p.word.now ++ (hexed p.bytes.now ++ (10 ∷ []))
