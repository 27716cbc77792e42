-- For the code: the row that a key makes.
--     IsRowOfKey query key row     the record's number, and the members of the code behind it
use Rattle.std.specs.Prelude.{◌≡◌, ℕ, List, ◌∷◌, ◌++◌}
use Rattle.mk_model.specs.Codes.{IsCode}
use Rattle.mk_model.specs.Queries.{QueryView}
use Rattle.mk_rtable.specs.declared.rows.TableRow.{TableRow}
use Rattle.mk_rtable.specs.Members.{AreMembers}

-- the first number of the key, and the members of the structural code behind it
abbrev pub IsRowOfKey : QueryView → List ℕ → TableRow → Type 0
IsRowOfKey query key row =
    (n : ℕ) (code hit : List ℕ) → IsCode query 0 code → key ≡ n ∷ (code ++ hit) → (row.number ≡ n) × AreMembers query code row.members
