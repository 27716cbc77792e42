-- What the code knows of the groups of a raw query. For the code alone.
--     part_members next g part      the members of a part, where it is one of group g
--     IsKnownLogic logic            the numbers and the range of an `M  LOG` are such as there are
--     logic_by property             the `M  LOG` that a property is
use Rattle.std.specs.Prelude.{◌==◌, ℕ, pos, List, [], Option, Some, None, length, if◌then◌else◌}
use Rattle.std.specs.List.{range_with_len}
use Rattle.mk_props.specs.declared.property.LogicLine.{LogicLine}
use Rattle.mk_props.specs.declared.property.Property.{Property}
use Rattle.mk_props.specs.declared.property.Property.TheVariants as kinds
use Rattle.mk_model.specs.declared.group.Interval.{Interval}
use Rattle.mk_demands.specs.Numbers.{IsWithin}
use Rattle.mk_logic.specs.RangeTexts.{IsRangeText}
use Rattle.mk_rgfile.specs.declared.raw_query.RawGroup.{RawGroup}

-- the numbers of a part's members, of which the first is `next`, where it is a part of group g
abbrev pub part_members : ℕ → ℕ → RawGroup → List ℕ
part_members next g part = if part.number == g then range_with_len next (length part.members) else []

-- the THEN group is 0 to 32, and the text is a range
pub record IsKnownLogic (logic : LogicLine) : Type 0 where
  pub then_group : IsWithin (pos 0) (pos 32) logic.then_group
  pub range : (range : List Interval) × IsRangeText logic.range range

-- where the property is an `M  LOG`, its THEN group is 0 to 32, and its text is a range
abbrev pub HasKnownLogic : Property → Type 0
HasKnownLogic (kinds.Logic logic) = IsKnownLogic logic
HasKnownLogic other = Unit {0}

-- the `M  LOG` that a property is
abbrev pub logic_by : Property → Option LogicLine
logic_by (kinds.Logic logic) = Some logic
logic_by other = None
