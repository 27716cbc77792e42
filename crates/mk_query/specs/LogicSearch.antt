-- How the first `M  LOG` that isn't right is found. For the code alone.
--     HasLogicIn is_root props item        what is demanded of the property of this number
--     names_group g property               the property is an `M  LOG` of group g
--     AreLastLogics props n last           for each group the number of its last `M  LOG` among the
--                                          first n properties
--     IsMarkedBy property item old new     one property more
--     IsLogicalBy is_root last item property     the demand, by these numbers
use Rattle.std.specs.Prelude.{◌≡◌, ◌≤◌, ◌<◌, ◌-◌, ◌==◌, ℕ, pos, Bool, true, false, List, Some, drop, length, slice_get, slice_index, if◌then◌else◌, IsTrue}
use Rattle.mk_text.specs.Items.{OfItem}
use Rattle.mk_props.specs.declared.property.LogicLine.{LogicLine}
use Rattle.mk_props.specs.declared.property.Property.{Property}
use Rattle.mk_props.specs.declared.property.Property.TheVariants as kinds
use Rattle.mk_model.specs.declared.group.Interval.{Interval}
use Rattle.mk_demands.specs.Numbers.{IsWithin, natural}
use Rattle.mk_logic.specs.RangeTexts.{IsRangeText}
use Rattle.mk_query.specs.LinkChecks.{IsLogical}

-- what is demanded of the property of this number
abbrev pub HasLogicIn : Bool → List Property → ℕ → Type 0
HasLogicIn is_root props item = OfItem (IsLogical is_root (drop item props)) props item

-- ---- the last of each group

-- the property is an `M  LOG` of group g
abbrev pub names_group : ℕ → Property → Bool
names_group g (kinds.Logic logic) = natural logic.group == g
names_group g other = false

-- an `M  LOG` of group g stands at this place
pub record NamesAt (props : List Property) (g place : ℕ) : Type 0 where
  pub property : Property
  pub at : slice_get props place ≡ Some property
  pub names : IsTrue (names_group g property)

-- the last of the first n properties that names group g has this number, and 0 stands for none
pub record IsLastLogic (props : List Property) (n g last : ℕ) : Type 0 where
  pub others : (k : ℕ) → k < n → NamesAt props g k → k < last
  pub here : 1 ≤ last → (last ≤ n) × NamesAt props g (last - 1)

-- for each group, and for 0, the list has the number of the last of the first n properties that
-- names it
pub record AreLastLogics (props : List Property) (n : ℕ) (last : List ℕ) : Type 0 where
  pub size : length last ≡ 33
  pub each : (g : ℕ) → g < 33 → IsLastLogic props n g (slice_index last g)

-- the number is put for the group that the property names
pub record IsMarkedBy (property : Property) (item : ℕ) (old new : List ℕ) : Type 0 where
  pub size : length new ≡ length old
  pub marked : (g : ℕ) → g < length old → slice_index new g ≡ (if names_group g property then item else slice_index old g)

-- ---- one property

-- The `M  LOG` stands in the root and is the last of its group, its group is 1 to 32, its THEN
-- group 0 to 32, RestH 0 or 1, and its range text is a range.
pub record IsRightLogicBy (is_root is_last : Bool) (logic : LogicLine) : Type 0 where
  pub root : is_root ≡ true
  pub last : is_last ≡ true
  pub group : IsWithin (pos 1) (pos 32) logic.group
  pub then_group : IsWithin (pos 0) (pos 32) logic.then_group
  pub rest : IsWithin (pos 0) (pos 1) logic.rest
  pub range : (range : List Interval) × IsRangeText logic.range range

-- the demand on the property of a number, by the numbers of the last of each group
abbrev pub IsLogicalBy : Bool → List ℕ → ℕ → Property → Type 0
IsLogicalBy is_root last item (kinds.Logic logic) = IsRightLogicBy is_root (slice_index last (natural logic.group) == item) logic
IsLogicalBy is_root last item other = Unit {0}
