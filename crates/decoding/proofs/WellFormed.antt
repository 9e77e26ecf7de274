-- A well-formed syndrome and erasure are never refused. Assumes nothing.
use Rattle.std.proofs.Common.{◌≡◌, ℕ, Bool, true, false, ◌&&◌, List, length, replicate, None, Ok, ap, ◌∙◌}
use Rattle.std.proofs.lemmas.List.{length-replicate}
use Rattle.std.proofs.lemmas.Bool.{and_from, eq-eqb}
use Rattle.refusals.specs.Questions.{first_no, where_accepted}
use Rattle.refusals.specs.Outputs.{answered, written}
use Rattle.refusals.proofs.Asking.{none_from_yes}
use Rattle.patterns.specs.Patterns.{member, width, fitting, tidy, Well}
use Rattle.patterns.proofs.Packed.{pattern_well}
use Rattle.codes.specs.Layouts.{Layout, Sound}
use Rattle.moves.specs.Jobs.{Model, refused_or, pattern_questions, opening_questions, opening}
use Rattle.jobs.specs.Runs.{run_by}
use Rattle.jobs.proofs.Books.{InBooks, books_opening, books_keeps}
use Rattle.jobs.proofs.Keeping.{moved_all_keeps}
use Rattle.reports.specs.Reports.{Told, report_questions, refused_or_answered}
use Rattle.decoding.specs.Decodings.{told_of, then_run, decoded, blank, decoded_answer, decoded_output, moves_from, left_by, run_told, decoded_text, WellFormedDecode}

-- ---- what is asked

fits_blank : (n : ℕ) → fitting n (replicate (width n) 0) ≡ true
fits_blank n = eq-eqb (length (replicate (width n) 0)) (width n) (length-replicate {A = ℕ} (width n) 0)

three : (a b c : Bool) → a ≡ true → b ≡ true → c ≡ true → (a && (b && c)) ≡ true
three a b c x y z = and_from a (b && c) x (and_from b c y z)

opening_asked : (c : Layout) (s e : List ℕ) → Well c.checks s → Well c.qubits e → first_no (opening_questions c (blank c) s e) ≡ None
opening_asked c s e ws we =
    let blanks = three (fitting c.checks (blank c).remaining) (fitting c.qubits (blank c).opened) (fitting c.qubits (blank c).correction) (fits_blank c.checks) (fits_blank c.qubits) (fits_blank c.qubits) in
    none_from_yes (opening_questions c (blank c) s e) (
      and_from (fitting c.checks s && fitting c.qubits e) _ (and_from (fitting c.checks s) (fitting c.qubits e) ws.long we.long) blanks,
      (and_from (tidy c.checks s) (tidy c.qubits e) ws.clean we.clean, tt),
    )

run_asked : (c : Layout) (m : Model) → Well c.checks m.remaining → Well c.qubits m.opened → Well c.qubits m.correction → first_no (pattern_questions c m) ≡ None
run_asked c m wr wo wc =
    none_from_yes (pattern_questions c m) (
      three (fitting c.checks m.remaining) (fitting c.qubits m.opened) (fitting c.qubits m.correction) wr.long wo.long wc.long,
      (three (tidy c.checks m.remaining) (tidy c.qubits m.opened) (tidy c.qubits m.correction) wr.clean wo.clean wc.clean, tt),
    )

report_asked : (t : Told) → Well t.qubits t.correction → Well t.qubits t.opened → first_no (report_questions t) ≡ None
report_asked t wc wo =
    none_from_yes (report_questions t) (
      and_from (fitting t.qubits t.correction) (fitting t.qubits t.opened) wc.long wo.long,
      (and_from (tidy t.qubits t.correction) (tidy t.qubits t.opened) wc.clean wo.clean, tt),
    )

-- ---- what is answered

module _ (letter : ℕ) (c : Layout) (sound : Sound c) (s e : List ℕ) (ws : Well c.checks s) (we : Well c.qubits e) where
  ran : decoded c (blank c) s e ≡ run_by c (opening c s e) (moves_from c s e)
  ran =
      ap (λ q. then_run c (refused_or q (blank c) (Ok tt, opening c s e))) (opening_asked c s e ws we)
      ∙ ap (λ q. refused_or q (opening c s e) (run_by c (opening c s e) (moves_from c s e))) (run_asked c (opening c s e) ws we (pattern_well c.qubits (λ _. false)))

  kept : InBooks c (member s) (member e) (left_by c s e)
  kept = moved_all_keeps c (InBooks c (member s) (member e)) (λ _. Unit {0}) (books_keeps c sound (member s) (member e)) (moves_from c s e) (opening c s e) (books_opening c sound s e ws we) tt

  asked : first_no (report_questions (told_of letter c (run_told c s e) (left_by c s e))) ≡ None
  asked = report_asked (told_of letter c (run_told c s e) (left_by c s e)) kept.well_correction kept.well_opened

  answer_is : (out : List ℕ) → decoded_answer letter c (decoded c (blank c) s e) out ≡ answered (decoded_text letter c s e) out
  answer_is out = ap (λ o. decoded_answer letter c o out) ran ∙ ap (λ q. refused_or_answered q (answered (decoded_text letter c s e) out)) asked

  output_is : (out : List ℕ) → decoded_output letter c (decoded c (blank c) s e) out ≡ written (decoded_text letter c s e) out
  output_is out = ap (λ o. decoded_output letter c o out) ran ∙ ap (λ q. where_accepted q (written (decoded_text letter c s e) out) out) asked

pub well_formed_decode : (letter : ℕ) (c : Layout) → Sound c → WellFormedDecode letter c
well_formed_decode letter c sound s e out ws we = (answer_is letter c sound s e ws we out, output_is letter c sound s e ws we out)
