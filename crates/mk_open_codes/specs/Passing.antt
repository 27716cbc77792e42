-- For the code: how far a front goes in a template.
--     HasOpenCode query front                    the front with some slots left open behind it is an
--                                                open code
--     PassesBy query slots front at next         from one place to the next the front, with slots left
--                                                open behind it, chooses at the slots
use Rattle.std.specs.Prelude.{◌≡◌, ◌+◌, ◌++◌, ℕ, List, drop, length}
use Rattle.mk_model.specs.declared.template.Slot.{Slot}
use Rattle.mk_model.specs.Queries.{QueryView}
use Rattle.mk_expand.specs.OpenCodes.{IsOpenChoice, IsOpenCode, OpenChoice, open_spelling}
use Rattle.mk_open_codes.specs.Fronts.{front_code}

-- the front with some slots left open behind it is an open code of the root
pub record HasOpenCode (query : QueryView) (front : List ℕ) : Type 0 where
  pub left : ℕ
  pub is : IsOpenCode query 0 (front_code front left)

-- Where the front, with some slots left open behind it, goes on from one place with an open choice at
-- the slots, that choice has as many numbers as lie between this place and the next.
abbrev pub PassesBy : QueryView → List Slot → List ℕ → ℕ → ℕ → Type 0
PassesBy query slots front at next =
    (left : ℕ) (choice : OpenChoice) (rest : List ℕ) → IsOpenChoice query slots choice
    → open_spelling choice ++ rest ≡ drop at (front_code front left) → next ≡ at + length (open_spelling choice)
