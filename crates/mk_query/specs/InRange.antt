-- What `compile` asks of a raw query. Every query file that is read keeps it.
--     IsTableInRange table      few atoms and bonds, and in each list of elements as many as its
--                               line has room for
--     IsGroupInRange group      a number from 1 to 32, and members in range
--     IsQueryInRange raw        a root and groups in range
--     HasFewProperties table    fewer than 2^32 properties
--     HaveFewProperties raw     each table has
use Rattle.std.specs.Prelude.{◌≤◌, ◌<◌, ◌^◌, length, All}
use Rattle.mk_tables.specs.declared.raw.RawTable.{RawTable}
use Rattle.mk_tables.specs.TableFacts.{HasSymbols}
use Rattle.mk_rgfile.specs.declared.raw_query.RawGroup.{RawGroup}
use Rattle.mk_rgfile.specs.declared.raw_query.RawQuery.{RawQuery}

-- A table in range has at most 999 atoms and 999 bonds, 1 to 5 numbers in each atom list, and 1 to
-- 16 symbols in each `M  ALS`.
pub record IsTableInRange (table : RawTable) : Type 0 where
  pub few_atoms : length table.atoms ≤ 999
  pub few_bonds : length table.bonds ≤ 999
  pub numbers : All (λ list. (1 ≤ length list.numbers) × (length list.numbers ≤ 5)) table.lists
  pub symbols : All HasSymbols table.props

-- A group in range has a number from 1 to 32, and any members that are tables in range, or none.
pub record IsGroupInRange (group : RawGroup) : Type 0 where
  pub from_one : 1 ≤ group.number
  pub to_32 : group.number ≤ 32
  pub members : All IsTableInRange group.members

-- A raw query in range has a root and groups in range.
pub record IsQueryInRange (raw : RawQuery) : Type 0 where
  pub root : IsTableInRange raw.root
  pub groups : All IsGroupInRange raw.groups

-- a table has fewer than 2^32 properties
abbrev pub HasFewProperties : RawTable → Type 0
HasFewProperties table = length table.props < 2 ^ 32

-- each table of a raw query has fewer than 2^32 properties
pub record HaveFewProperties (raw : RawQuery) : Type 0 where
  pub root : HasFewProperties raw.root
  pub members : All (λ group. All HasFewProperties group.members) raw.groups
