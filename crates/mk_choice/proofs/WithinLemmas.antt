-- The structural code with which numbers begin, from the left.
--     within_more        a number that can stand at the first slot, and those behind it that choose at what is open then
--     code_of_within     what chooses at the slots of the root is a structural code
use Rattle.std.proofs.Common.{◌≡◌, ℕ, ◌+◌, ◌≤◌, List, ◌∷◌, ◌++◌, take, Option, Some, None, add-one, arith}
use Rattle.mk_model.specs.declared.template.Slot.{Slot}
use Rattle.mk_model.specs.OpenSlots.{most_at, opened}
use Rattle.mk_model.specs.Queries.{QueryView, slots_of}
use Rattle.mk_model.proofs.ForCallers.{chooses_of, is_code_of}
use Rattle.mk_choice.specs.Within.{AreChosenWithin, IsCodeWithin}

-- a number that can stand at the first slot, and numbers behind it that choose at what is open then
pub within_more : (query : QueryView) (slot : Slot) (slots others : List Slot) (number n : ℕ) (numbers rest : List ℕ) → slots ≡ slot ∷ others → numbers ≡ number ∷ rest
    → 1 ≤ number → number ≤ most_at query slot → AreChosenWithin query (opened query slot number ++ others) rest (Some n) → AreChosenWithin query slots numbers (Some (n + 1))
within_more query slot slots others number n numbers rest some is least most chosen = rw (some, is, add-one) (omega (arith, chosen.0), (least, most, chosen.1))

-- what chooses at the slots of the root is a structural code
pub code_of_within : (query : QueryView) (numbers : List ℕ) (found : Option ℕ) → AreChosenWithin query (slots_of query 0) numbers found → IsCodeWithin query numbers found
code_of_within query numbers None missed = λ code behind is whole. missed code behind (chooses_of query 0 code is) whole
code_of_within query numbers (Some n) chosen = (chosen.0, is_code_of query 0 (take n numbers) chosen.1)
