-- The lists of a matrix, from both sides: how many there are, and how long. Assumes nothing.
use Rattle.std.proofs.Common.{◌≡◌, ℕ, true, List, length, ap, ◌∙◌}
use Rattle.std.proofs.lemmas.Bool.{and_parts}
use Rattle.matrices.specs.Relations.{tabled, short}
use Rattle.matrices.specs.Rows.{entry, turned_entry, few, sparse}
use Rattle.matrices.proofs.Tables.{length_tabled, short_tabled}

pub record Both (m n : ℕ) (bytes : List ℕ) (rows columns : List (List ℕ)) : Type 0 where
  pub rows_are : rows ≡ tabled m n (entry n bytes)
  pub columns_are : columns ≡ tabled n m (turned_entry n bytes)

module _ {m n : ℕ} {bytes : List ℕ} {rows columns : List (List ℕ)} (both : Both m n bytes rows columns) where
  pub row_count : length rows ≡ m
  row_count = ap length both.rows_are ∙ length_tabled m n (entry n bytes)

  pub column_count : length columns ≡ n
  column_count = ap length both.columns_are ∙ length_tabled n m (turned_entry n bytes)

  module _ (most : ℕ) (few-ones : sparse most m n bytes ≡ true) where
    both_few : (few most m n (entry n bytes) ≡ true) × (few most n m (turned_entry n bytes) ≡ true)
    both_few = and_parts (few most m n (entry n bytes)) (few most n m (turned_entry n bytes)) few-ones

    pub short_rows : short most rows ≡ true
    short_rows = ap (short most) both.rows_are ∙ short_tabled most m n (entry n bytes) both_few.0

    pub short_columns : short most columns ≡ true
    short_columns = ap (short most) both.columns_are ∙ short_tabled most n m (turned_entry n bytes) both_few.1
