-- A report can be read back. Assumes nothing.
use Rattle.std.proofs.Common.{◌≡◌, ℕ, ◌+◌, ◌/◌, ◌%◌, ◌^◌, ◌<◌, ◌≤◌, Bool, true, cond, ◌&&◌, eqb, ltb, leb, ◌⊎◌, List, [], ◌∷◌, ◌++◌, get_or, drop, codes, decimal, sym, refl, ap, ◌∙◌, ap₂, inl, inr, ⊎_elim, arith}
use Rattle.std.specs.Str.Parse.{AllDigits}
use Rattle.std.proofs.lemmas.Fmt.{decimal_is_IsNumeral, decimal_injective}
use Rattle.std.proofs.lemmas.List.{append_assoc, append_cancel_left}
use Rattle.std.proofs.lemmas.Str.Parse.{digit_from_value}
use Rattle.std.proofs.lemmas.Bool.{and_parts, and_from, le-leb, leb-true, cases_lt, cond-true, cond-false, lt-ltb, le-ltb}
use Rattle.verdicts.specs.declared.Verdict.{Verdict}
use Rattle.verdicts.specs.declared.Verdict.TheVariants.{Contradicted, Settled, Moving, Matched, Stalled}
use Rattle.verdicts.specs.Words.{word}
use Rattle.patterns.specs.Hex.{hex_digit, hexed}
use Rattle.reports.specs.Reports.{Told, Tellable, report_of, ReportDetermines}

-- ---- a value ends where a space or a line end stands

-- whether each byte is a digit or a letter, and so no space and no line end
abbrev plain : List ℕ → Bool
plain [] = true
plain (x ∷ xs) = leb 48 x && plain xs

low_is_not_plain : (s : ℕ) (xs : List ℕ) → s < 48 → plain (s ∷ xs) ≡ true → ⊥
low_is_not_plain s xs low h = omega (arith, leb-true 48 s (and_parts (leb 48 s) (plain xs) h).0)

value_same : (s : ℕ) → s < 48 → (v w rest more : List ℕ) → plain v ≡ true → plain w ≡ true → v ++ (s ∷ rest) ≡ w ++ (s ∷ more) → (v ≡ w) × (rest ≡ more)
value_same s low [] [] rest more a b e = let tails : rest ≡ more = cc in (refl, tails)
value_same s low [] (y ∷ w) rest more a b e =
    let first : y ≡ s = cc in
    absurd (low_is_not_plain s w low (ap (λ x. plain (x ∷ w)) (sym first) ∙ b))
value_same s low (x ∷ v) [] rest more a b e =
    let first : x ≡ s = cc in
    absurd (low_is_not_plain s v low (ap (λ y. plain (y ∷ v)) (sym first) ∙ a))
value_same s low (x ∷ v) (y ∷ w) rest more a b e =
    let first : x ≡ y = cc in
    let others : v ++ (s ∷ rest) ≡ w ++ (s ∷ more) = cc in
    let both = value_same s low v w rest more (and_parts (leb 48 x) (plain v) a).1 (and_parts (leb 48 y) (plain w) b).1 others in
    (ap₂ ◌∷◌ first both.0, both.1)

-- ---- counts

digits_plain : (ds : List ℕ) → AllDigits 10 ds → plain ds ≡ true
digits_plain [] h = refl
digits_plain (d ∷ ds) h = and_from (leb 48 d) (plain ds) (le-leb 48 d (digit_from_value d h.0).0) (digits_plain ds h.1)

plain_decimal : (n : ℕ) → n < 2 ^ 32 → plain (decimal n) ≡ true
plain_decimal n h = digits_plain (decimal n) (decimal_is_IsNumeral n (omega arith)).0.1

count_same : (s : ℕ) → s < 48 → (m n : ℕ) (rest more : List ℕ) → m < 2 ^ 32 → n < 2 ^ 32 → decimal m ++ (s ∷ rest) ≡ decimal n ++ (s ∷ more) → (m ≡ n) × (rest ≡ more)
count_same s low m n rest more hm hn e =
    let both = value_same s low (decimal m) (decimal n) rest more (plain_decimal m hm) (plain_decimal n hn) e in
    (decimal_injective m n (omega arith) (omega arith) both.0, both.1)

-- ---- verdicts

plain_word : (v : Verdict) → plain (word v) ≡ true
plain_word Contradicted = refl
plain_word Settled = refl
plain_word Moving = refl
plain_word Matched = refl
plain_word Stalled = refl

-- the verdict of a word, by its first and its fourth letter
abbrev of_word : List ℕ → Verdict
of_word w = cond (eqb (get_or w 0 0) 99) Contradicted (cond (eqb (get_or w 3 0) 105) Moving (cond (eqb (get_or w 3 0) 99) Matched (cond (eqb (get_or w 3 0) 108) Stalled Settled)))

of_word_back : (v : Verdict) → of_word (word v) ≡ v
of_word_back Contradicted = refl
of_word_back Settled = refl
of_word_back Moving = refl
of_word_back Matched = refl
of_word_back Stalled = refl

verdict_same : (v w : Verdict) (rest more : List ℕ) → word v ++ (10 ∷ rest) ≡ word w ++ (10 ∷ more) → (v ≡ w) × (rest ≡ more)
verdict_same v w rest more e =
    let both = value_same 10 (omega arith) (word v) (word w) rest more (plain_word v) (plain_word w) e in
    (sym (of_word_back v) ∙ ap of_word both.0 ∙ of_word_back w, both.1)

-- ---- patterns

figure : (v : ℕ) → ((v < 10) × (hex_digit v ≡ 48 + v)) ⊎ ((10 ≤ v) × (hex_digit v ≡ 55 + v))
figure v =
    ⊎_elim
    (λ h. inl (h, cond-true (ltb v 10) (48 + v) (55 + v) (lt-ltb v 10 h)))
    (λ h. inr (h, cond-false (ltb v 10) (48 + v) (55 + v) (le-ltb v 10 h)))
    (cases_lt v 10)

figure_high : (v : ℕ) → 48 ≤ hex_digit v
figure_high v = ⊎_elim (λ h. omega (arith, h.1)) (λ h. omega (arith, h.1)) (figure v)

figure_same : (v w : ℕ) → hex_digit v ≡ hex_digit w → v ≡ w
figure_same v w e =
    ⊎_elim
    (λ a. ⊎_elim (λ b. omega (arith, e, a.0, a.1, b.0, b.1)) (λ b. omega (arith, e, a.0, a.1, b.0, b.1)) (figure w))
    (λ a. ⊎_elim (λ b. omega (arith, e, a.0, a.1, b.0, b.1)) (λ b. omega (arith, e, a.0, a.1, b.0, b.1)) (figure w))
    (figure v)

plain_hexed : (bs : List ℕ) → plain (hexed bs) ≡ true
plain_hexed [] = refl
plain_hexed (b ∷ bs) =
    and_from (leb 48 (hex_digit (b / 16))) (leb 48 (hex_digit (b % 16)) && plain (hexed bs)) (le-leb 48 (hex_digit (b / 16)) (figure_high (b / 16)))
    (and_from (leb 48 (hex_digit (b % 16))) (plain (hexed bs)) (le-leb 48 (hex_digit (b % 16)) (figure_high (b % 16))) (plain_hexed bs))

hexed_same : (bs cs : List ℕ) → hexed bs ≡ hexed cs → bs ≡ cs
hexed_same [] [] e = refl
hexed_same [] (c ∷ cs) e = let z : ◌≡◌ {A = ℕ} 0 1 = cc in absurd (omega arith)
hexed_same (b ∷ bs) [] e = let z : ◌≡◌ {A = ℕ} 0 1 = cc in absurd (omega arith)
hexed_same (b ∷ bs) (c ∷ cs) e =
    let high : hex_digit (b / 16) ≡ hex_digit (c / 16) = cc in
    let low : hex_digit (b % 16) ≡ hex_digit (c % 16) = cc in
    let rest : hexed bs ≡ hexed cs = cc in
    let same : b ≡ c = omega (arith, figure_same (b / 16) (c / 16) high, figure_same (b % 16) (c % 16) low) in
    ap₂ ◌∷◌ same (hexed_same bs cs rest)

pattern_same : (bs cs rest more : List ℕ) → hexed bs ++ (10 ∷ rest) ≡ hexed cs ++ (10 ∷ more) → (bs ≡ cs) × (rest ≡ more)
pattern_same bs cs rest more e =
    let both = value_same 10 (omega arith) (hexed bs) (hexed cs) rest more (plain_hexed bs) (plain_hexed cs) e in
    (hexed_same bs cs both.0, both.1)

-- ---- the lines, from each on

abbrev from_open : Told → List ℕ
from_open t = codes "open " ++ (hexed t.opened ++ (10 ∷ []))

abbrev from_fix : Told → List ℕ
from_fix t = codes "fix " ++ (hexed t.correction ++ (10 ∷ from_open t))

abbrev from_moves : Told → List ℕ
from_moves t = codes "moves " ++ (decimal t.peels ++ (32 ∷ (decimal t.prunes ++ (32 ∷ (decimal t.flips ++ (10 ∷ from_fix t))))))

abbrev from_verdict : Told → List ℕ
from_verdict t = codes "verdict " ++ (word t.verdict ++ (10 ∷ from_moves t))

abbrev from_code : Told → List ℕ
from_code t = codes "code " ++ (t.letter ∷ 32 ∷ (decimal t.qubits ++ (32 ∷ (decimal t.checks ++ (32 ∷ (decimal t.generators ++ (10 ∷ from_verdict t)))))))

report_is : (t : Told) → report_of t ≡ from_code t
unfolding report_of
report_is t = simp append_assoc

-- ---- the whole

-- the pieces that two reports of the same bytes tell, line by line
module _ (s t : Told) (a : Tellable s) (b : Tellable t) where
  open_same : from_open s ≡ from_open t → s.opened ≡ t.opened
  open_same e = (pattern_same s.opened t.opened [] [] (append_cancel_left (codes "open ") _ _ e)).0

  fix_same : from_fix s ≡ from_fix t → (s.correction ≡ t.correction) × (from_open s ≡ from_open t)
  fix_same e = pattern_same s.correction t.correction (from_open s) (from_open t) (append_cancel_left (codes "fix ") _ _ e)

  moves_same : from_moves s ≡ from_moves t → (s.peels ≡ t.peels) × (s.prunes ≡ t.prunes) × (s.flips ≡ t.flips) × (from_fix s ≡ from_fix t)
  moves_same e =
      let peels = count_same 32 (omega arith) s.peels t.peels _ _ a.peels b.peels (append_cancel_left (codes "moves ") _ _ e) in
      let prunes = count_same 32 (omega arith) s.prunes t.prunes _ _ a.prunes b.prunes peels.1 in
      let flips = count_same 10 (omega arith) s.flips t.flips (from_fix s) (from_fix t) a.flips b.flips prunes.1 in
      (peels.0, prunes.0, flips.0, flips.1)

  code_same : from_code s ≡ from_code t → (s.letter ≡ t.letter) × (s.qubits ≡ t.qubits) × (s.checks ≡ t.checks) × (s.generators ≡ t.generators) × (from_verdict s ≡ from_verdict t)
  code_same e =
      let after = append_cancel_left (codes "code ") _ _ e in
      let letter : s.letter ≡ t.letter = ap (λ x. get_or x 0 0) after in
      let qubits = count_same 32 (omega arith) s.qubits t.qubits _ _ a.qubits b.qubits (ap (drop 2) after) in
      let checks = count_same 32 (omega arith) s.checks t.checks _ _ a.checks b.checks qubits.1 in
      let generators = count_same 10 (omega arith) s.generators t.generators (from_verdict s) (from_verdict t) a.generators b.generators checks.1 in
      (letter, qubits.0, checks.0, generators.0, generators.1)

-- what is told, from its parts
make : ℕ → ℕ → ℕ → ℕ → Verdict → ℕ → ℕ → ℕ → List ℕ → List ℕ → Told
make letter qubits checks generators verdict peels prunes flips correction opened = record {
  letter = letter;
  qubits = qubits;
  checks = checks;
  generators = generators;
  verdict = verdict;
  peels = peels;
  prunes = prunes;
  flips = flips;
  correction = correction;
  opened = opened;
}

made : (t : Told) → make t.letter t.qubits t.checks t.generators t.verdict t.peels t.prunes t.flips t.correction t.opened ≡ t
unfolding make
made t = refl

pub report_determines : ReportDetermines
report_determines s t a b e =
    let code = code_same s t a b (sym (report_is s) ∙ e ∙ report_is t) in
    let verdict = verdict_same s.verdict t.verdict (from_moves s) (from_moves t) (append_cancel_left (codes "verdict ") _ _ code.4) in
    let moves = moves_same s t a b verdict.1 in
    let fix = fix_same s t a b moves.3 in
    let last = open_same s t a b fix.1 in
    cc (made s, made t, code.0, code.1, code.2, code.3, verdict.0, moves.0, moves.1, moves.2, fix.0, last)
