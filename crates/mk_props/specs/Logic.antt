-- The logic of a group.
--     IsLogicLine line logic      an `M  LOG` line
use Rattle.std.specs.Prelude.{◌≡◌, ℕ, List, drop, pos, codes}
use Rattle.mk_text.specs.Columns.{columns}
use Rattle.mk_text.specs.Fields.{IsField}
use Rattle.mk_props.specs.declared.property.LogicLine.{LogicLine}
use Rattle.mk_props.specs.Entries.{IsBlankAt, IsSpacedNumber}

-- `M  LOG  1 rrr iii hhh range`: one entry, three numbers, and from column 23 to the line's end the
-- range text
pub record IsLogicLine (line : List ℕ) (logic : LogicLine) : Type 0 where
  pub begins : columns line 1 6 ≡ codes "M  LOG"
  pub one : IsField (columns line 7 9) (pos 1)
  pub group : IsSpacedNumber line 10 logic.group
  pub then_group : IsSpacedNumber line 14 logic.then_group
  pub rest : IsSpacedNumber line 18 logic.rest
  pub space : IsBlankAt line 22
  pub range : logic.range ≡ drop 22 line
