-- The report's lines and their lengths. Assumes nothing.
use Rattle.std.proofs.Common.{◌≡◌, ℕ, ◌+◌, ◌*◌, List, [], ◌∷◌, ◌++◌, length, codes, arith}
use Rattle.std.proofs.lemmas.List.{length-append}
use Rattle.patterns.specs.Hex.{hexed}
use Rattle.patterns.proofs.Hexing.{length_hexed}
use Rattle.reports.specs.Texts.{line}
use Rattle.reports.specs.Reports.{Told, short_lines, pattern_lines, fix_line, open_line, report_of}

pub length_pattern_line : (w bytes : List ℕ) → length (line w (hexed bytes ∷ [])) ≡ length w + (2 * length bytes + 2)
length_pattern_line w bytes =
    omega (arith, length-append w (32 ∷ (hexed bytes ++ (10 ∷ []))), length-append (hexed bytes) (10 ∷ []), length_hexed bytes)

pub length_report : (t : Told) → length (report_of t) ≡ length (short_lines t) + 11 + 2 * (length t.correction + length t.opened)
unfolding report_of
length_report t =
    let fix = length_pattern_line (codes "fix") t.correction in
    let open' = length_pattern_line (codes "open") t.opened in
    omega (arith, fix, open', length-append (fix_line t.correction) (open_line t.opened), length-append (short_lines t) (pattern_lines t))
