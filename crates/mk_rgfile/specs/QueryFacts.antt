-- What the query of every query file keeps.
--     IsRawQuery query           each table keeps what a table keeps, group numbers are from 1 to
--                                32, a group has a member
--     FitsIn lines query         there are fewer member tables, and in each table fewer properties,
--                                than lines
--     member_count query         how many member tables it has
use Rattle.std.specs.Prelude.{ℕ, ◌+◌, ◌≤◌, ◌<◌, List, [], ◌∷◌, length, All}
use Rattle.mk_tables.specs.declared.raw.RawTable.{RawTable}
use Rattle.mk_tables.specs.TableFacts.{IsRawTable}
use Rattle.mk_rgfile.specs.declared.raw_query.RawGroup.{RawGroup}
use Rattle.mk_rgfile.specs.declared.raw_query.RawQuery.{RawQuery}

-- the number of a group is from 1 to 32, it has a member, and each member keeps what a table keeps
pub record IsRawGroup (group : RawGroup) : Type 0 where
  pub from_one : 1 ≤ group.number
  pub to_32 : group.number ≤ 32
  pub some : 1 ≤ length group.members
  pub members : All IsRawTable group.members

-- the root keeps what a table keeps, and so does each member; group numbers are from 1 to 32, and
-- each group has a member
pub record IsRawQuery (query : RawQuery) : Type 0 where
  pub root : IsRawTable query.root
  pub groups : All IsRawGroup query.groups

-- how many members the groups have together
abbrev pub members_in : List RawGroup → ℕ
members_in [] = 0
members_in (group ∷ groups) = length group.members + members_in groups

-- how many members the groups of a query have together
abbrev pub member_count : RawQuery → ℕ
member_count query = members_in query.groups

-- the table has fewer properties than the text has lines
abbrev pub HasFewProperties : ℕ → RawTable → Type 0
HasFewProperties size table = length table.props < size

-- In a text of so many lines the member tables are at least two fewer, and the properties of each
-- table are fewer.
pub record FitsIn (size : ℕ) (query : RawQuery) : Type 0 where
  pub few_members : member_count query + 1 < size
  pub root : HasFewProperties size query.root
  pub members : All (λ group. All (HasFewProperties size) group.members) query.groups
