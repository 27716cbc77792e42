-- For the code: the numbers of the rows that have a bit.
use Rattle.std.specs.Prelude.{◌==◌, ◌++◌, ℕ, zero, suc, List, [], ◌∷◌, Some, None, Option, slice_get, if◌then◌else◌}
use Rattle.mk_model.specs.Molecules.{Molecule}
use Rattle.mk_rows.specs.declared.by_number.Numbered.{Numbered}
use Rattle.mk_index.specs.Columns.{cell}

-- the number of the row at a place
abbrev pub number_at : List (Numbered Molecule) → ℕ → List ℕ
number_at rows i = number_of (slice_get rows i)
  where
    number_of : Option (Numbered Molecule) → List ℕ
    number_of None = []
    number_of (Some row) = row.number ∷ []

-- the number of row i, where it has the bit
abbrev pub posted_at : List (Numbered Molecule) → List ℕ → ℕ → ℕ → List ℕ
posted_at rows columns b i = if cell columns i b == 1 then number_at rows i else []

-- the numbers of those of the first n rows that have the bit
unfoldable pub posted_by : List (Numbered Molecule) → List ℕ → ℕ → ℕ → List ℕ
posted_by rows columns b zero = []
posted_by rows columns b (suc n) = posted_by rows columns b n ++ posted_at rows columns b n
