-- What a keeper tells, by the connection that it has or the cause that keeps it shut.
--     kept_tables g opened           the tables of the last commit, where the keeper is open and
--                                    sound
--     IsKeptSound g opened           the keeper is open, and its connection sound
--     handed_back opened             the connection that a keeper hands back
--     StaysKept g old new            an open keeper stays open, and sound but for a fault of the
--                                    disk
--     CrashLeaves g old new batch    a crash leaves what stands for the tables before the batch or
--                                    after it
--     FaultLeaves g old new          and once a fault has shut the connection, no more than before
--     AreKeptTables g opened t       the rows of the last commit have forms, and are these tables
use Rattle.std.specs.Prelude.{⊤, List, Option, Some, None, Result, Ok, Err}
use Rattle.sqlite_trees.specs.declared.store.Store.{Ghosts}
use Rattle.sqlite.specs.Held.{Held, state}
use Rattle.mk_outside.specs.declared.tables.Tables.{Tables}
use Rattle.mk_outside.specs.declared.tables.Change.{Change}
use Rattle.mk_outside.specs.declared.answers.KeepFail.{KeepFail}
use Rattle.mk_sqlite.specs.Told.{AreTablesOf}
use Rattle.mk_sqlite.specs.Keeps.{IsSoundState, told_in, StaysSound, OnCrash, LeavesNoMore}

-- an open keeper tells what its connection tells, and a shut one nothing
abbrev pub kept_tables : {S : Type 0} → Ghosts S → Result (Held S) KeepFail → Option Tables
kept_tables g (Ok c) = told_in (state g c)
kept_tables g (Err fail) = None

-- an open keeper is sound where its connection is, and a shut one never
abbrev pub IsKeptSound : {S : Type 0} → Ghosts S → Result (Held S) KeepFail → Type 0
IsKeptSound g (Ok c) = IsSoundState (state g c)
IsKeptSound g (Err fail) = ⊥

-- the connection of an open keeper, and nothing of a shut one
abbrev pub handed_back : {A : Type 0} → Result A KeepFail → Option A
handed_back (Ok c) = Some c
handed_back (Err fail) = None

-- a call leaves an open keeper open, and its connection sound but for a fault of the disk
abbrev pub StaysKept : {S : Type 0} → Ghosts S → Result (Held S) KeepFail → Result (Held S) KeepFail → Type 0
StaysKept g (Ok old) (Ok new) = StaysSound (state g old) (state g new)
StaysKept g (Ok old) (Err fail) = ⊥
StaysKept g (Err fail) new = ⊤

-- What a crash leaves after a call on an open keeper stands for the tables before the batch, or for
-- those after it.
abbrev pub CrashLeaves : {S : Type 0} → Ghosts S → Result (Held S) KeepFail → Result (Held S) KeepFail → List Change → Type 0
CrashLeaves g (Ok old) (Ok new) batch = OnCrash (state g old) (state g new) batch
CrashLeaves g (Ok old) (Err fail) batch = ⊥
CrashLeaves g (Err fail) new batch = ⊤

-- After a call on a keeper whose connection is shut, as by a fault of the disk, a crash leaves
-- nothing that it couldn't leave before.
abbrev pub FaultLeaves : {S : Type 0} → Ghosts S → Result (Held S) KeepFail → Result (Held S) KeepFail → Type 0
FaultLeaves g (Ok old) (Ok new) = LeavesNoMore (state g old) (state g new)
FaultLeaves g (Ok old) (Err fail) = ⊥
FaultLeaves g (Err fail) new = ⊤

-- each row of the last commit has a form where its schema is one of ours, and these are its tables
abbrev pub AreKeptTables : {S : Type 0} → Ghosts S → Result (Held S) KeepFail → Tables → Type 0
AreKeptTables g (Ok c) t = AreTablesOf (state g c).committed t
AreKeptTables g (Err fail) t = ⊥
