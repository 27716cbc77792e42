-- What the table of every text keeps.
--     IsRawTable table          what every table keeps that was read
use Rattle.std.specs.Prelude.{◌≤◌, length, All}
use Rattle.mk_props.specs.declared.property.Property.{Property}
use Rattle.mk_props.specs.declared.property.Property.TheVariants as kinds
use Rattle.mk_tables.specs.declared.raw.RawTable.{RawTable}
use Rattle.mk_tables.specs.Table.{IsKept}

-- an `M  ALS` lists 1 to 16 symbols
abbrev pub HasSymbols : Property → Type 0
HasSymbols (kinds.List list) = (1 ≤ length list.symbols) × (length list.symbols ≤ 16)
HasSymbols p = Unit {0}

-- few atoms, bonds and lists, 1 to 5 numbers in each list, 1 to 16 symbols in each `M  ALS`, no
-- line passed over and no end
pub record IsRawTable (table : RawTable) : Type 0 where
  pub few_atoms : length table.atoms ≤ 999
  pub few_bonds : length table.bonds ≤ 999
  pub few_lists : length table.lists ≤ 999
  pub numbers : All (λ list. (1 ≤ length list.numbers) × (length list.numbers ≤ 5)) table.lists
  pub symbols : All HasSymbols table.props
  pub kept : All IsKept table.props
