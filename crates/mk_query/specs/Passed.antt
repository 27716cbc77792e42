-- What is known of a table that passed its checks. For the code alone.
--     HasPassed table     it passes them, as the root or a member
use Rattle.std.specs.Prelude.{Bool, List}
use Rattle.mk_tables.specs.declared.raw.RawTable.{RawTable}
use Rattle.mk_rgfile.specs.declared.raw_query.RawGroup.{RawGroup}
use Rattle.mk_query.specs.FirstFault.{PassesAll}

-- a table passed its checks, as the root or as a member, among some groups
pub record HasPassed (table : RawTable) : Type 0 where
  pub groups : List RawGroup
  pub is_root : Bool
  pub passes : PassesAll groups is_root table
