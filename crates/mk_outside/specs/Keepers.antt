-- Keepers in memory.
--     keeper_faults k                          how many calls failed
--     keeper_after_load k result               a keeper in memory after `load`
--     keeper_after_commit k batch result       a keeper in memory after `commit`
use Rattle.std.specs.Prelude.{ℕ, ◌+◌, min, List, Result}
use Rattle.mk_outside.specs.declared.tables.Tables.{Tables}
use Rattle.mk_outside.specs.declared.tables.Change.{Change}
use Rattle.mk_outside.specs.declared.answers.KeepFail.{KeepFail}
use Rattle.mk_outside.specs.Calls.{CallState, calls_after}
use Rattle.mk_outside.specs.Told.{is_failed_keep, committed}

-- the tables, the calls of `load`, and those of `commit`
pub record KeeperState : Type 0 where
  pub tables : Tables
  pub loads : CallState
  pub commits : CallState

-- how many calls failed, of both kinds together
abbrev pub keeper_faults : KeeperState → ℕ
keeper_faults k = min (k.loads.faults + k.commits.faults) 18446744073709551615

-- a keeper in memory after `load`
abbrev pub keeper_after_load : {A : Type 0} → KeeperState → Result A KeepFail → KeeperState
keeper_after_load k result =
    record { tables = k.tables; loads = calls_after k.loads (is_failed_keep result); commits = k.commits }

-- a keeper in memory after `commit`
abbrev pub keeper_after_commit : {A : Type 0} → KeeperState → List Change → Result A KeepFail → KeeperState
keeper_after_commit k batch result = record {
  tables = committed batch k.tables result;
  loads = k.loads;
  commits = calls_after k.commits (is_failed_keep result);
}
