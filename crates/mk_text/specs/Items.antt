-- Items of a list by their numbers, which count from 1, and the least item at which a demand fails.
--     OfItem P xs item                 P holds of the item of this number, where there is one
--     IsLeastFailing Demand item       the demand fails at this item, and holds at every lower one
--     FindsLeast Demand found          the least item at which the demand fails, or none where it
--                                      fails at none
use Rattle.std.specs.Prelude.{◌≡◌, ◌<◌, ◌≤◌, ◌-◌, ℕ, List, Option, Some, None, slice_get}

-- P holds of the item of this number, where there is one
abbrev pub OfItem : {X : Type 0} → (X → Type 0) → List X → ℕ → Type 0
OfItem {X} P xs item = (x : X) → 1 ≤ item → slice_get xs (item - 1) ≡ Some x → P x

-- the demand fails at this item, and holds at every lower one
pub record IsLeastFailing (Demand : ℕ → Type 0) (item : ℕ) : Type 0 where
  pub lower : (j : ℕ) → j < item → Demand j
  pub fails : ¬ (Demand item)

-- the least item at which the demand fails, or none where it fails at none
abbrev pub FindsLeast : (ℕ → Type 0) → Option ℕ → Type 0
FindsLeast Demand None = (item : ℕ) → Demand item
FindsLeast Demand (Some item) = IsLeastFailing Demand item
