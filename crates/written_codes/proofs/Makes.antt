-- Rows that were asked make lists within the limits. Assumes nothing.
use Rattle.std.proofs.Common.{◌≡◌, ℕ, true, ◌&&◌, List, length, ap, ◌∙◌, ap₂}
use Rattle.std.proofs.lemmas.Bool.{and_parts}
use Rattle.refusals.proofs.Asking.{Yes}
use Rattle.matrices.specs.Relations.{tabled}
use Rattle.matrices.specs.Rows.{entry, turned_entry}
use Rattle.matrices.proofs.Both.{Both, row_count, column_count}
use Rattle.written_codes.specs.Listing.{listed_code, most_written_qubits, most_written_rows, within, all_even}
use Rattle.written_codes.specs.Writing.{light, written_questions, written_code}
use Rattle.written_codes.proofs.Overlaps.{even_tabled}

module _ {n m k : ℕ} {checks generators : List ℕ} {c by-c g by-g : List (List ℕ)} (of-checks : Both m n checks c by-c) (of-generators : Both k n generators g by-g) where
  pub code_made : listed_code c by-c g by-g ≡ written_code n m k checks generators
  code_made =
      ap₂ (λ x y. listed_code x y g by-g) of-checks.rows_are of-checks.columns_are
      ∙ ap₂ (λ x y. listed_code (tabled m n (entry n checks)) (tabled n m (turned_entry n checks)) x y) of-generators.rows_are of-generators.columns_are

  module _ (yes' : Yes (written_questions n m k checks generators)) where
    counts : (within most_written_qubits n ≡ true) × ((within most_written_rows m && within most_written_rows k) ≡ true)
    counts = and_parts (within most_written_qubits n) (within most_written_rows m && within most_written_rows k) yes'.0

    pub qubits_within : within most_written_qubits (length by-c) ≡ true
    qubits_within = ap (within most_written_qubits) (column_count of-checks) ∙ counts.0

    pub checks_within : within most_written_rows (length c) ≡ true
    checks_within = ap (within most_written_rows) (row_count of-checks) ∙ (and_parts (within most_written_rows m) (within most_written_rows k) counts.1).0

    pub generators_within : within most_written_rows (length g) ≡ true
    generators_within = ap (within most_written_rows) (row_count of-generators) ∙ (and_parts (within most_written_rows m) (within most_written_rows k) counts.1).1

    pub both_light : (light m n checks ≡ true) × (light k n generators ≡ true)
    both_light = and_parts (light m n checks) (light k n generators) yes'.1.1.1.0

    pub even_made : all_even c g ≡ true
    even_made = ap₂ all_even of-checks.rows_are of-generators.rows_are ∙ even_tabled n m k checks generators yes'.1.1.1.1.0
