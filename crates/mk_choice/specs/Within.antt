-- The structural code with which numbers begin.
--     IsCodeWithin query numbers found     so many of the first numbers are a structural code of
--                                          the root; none where none are
-- What follows serves code alone:
--     AreChosenWithin query slots numbers found    so many of the first numbers choose at the open
--                                                  slots; none where none do
use Rattle.std.specs.Prelude.{◌≡◌, ◌≤◌, ℕ, List, ◌++◌, Option, Some, None, length, take}
use Rattle.mk_model.specs.declared.template.Slot.{Slot}
use Rattle.mk_model.specs.Codes.{IsCode}
use Rattle.mk_model.specs.OpenSlots.{Chooses}
use Rattle.mk_model.specs.Queries.{QueryView}

-- so many of the first numbers are a structural code of the root; none where the numbers begin with
-- no structural code
abbrev pub IsCodeWithin : QueryView → List ℕ → Option ℕ → Type 0
IsCodeWithin query numbers None = (code behind : List ℕ) → IsCode query 0 code → numbers ≡ code ++ behind → ⊥
IsCodeWithin query numbers (Some n) = (n ≤ length numbers) × IsCode query 0 (take n numbers)

-- ---- for the code

-- so many of the first numbers choose at these slots; none where the numbers begin with no such
-- choice
abbrev pub AreChosenWithin : QueryView → List Slot → List ℕ → Option ℕ → Type 0
AreChosenWithin query slots numbers None = (code behind : List ℕ) → Chooses query slots code → numbers ≡ code ++ behind → ⊥
AreChosenWithin query slots numbers (Some n) = (n ≤ length numbers) × Chooses query slots (take n numbers)
