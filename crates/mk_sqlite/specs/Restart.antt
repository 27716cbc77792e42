-- What a keeper that is opened later tells, over what the files of another were left with.
--     IsUpheld c                     what the toolchain's connections keep true of themselves
--     MayHold c image                the files of the connection may be left with this content
--     IsOpenedOver image c           the connection was opened over files of this content
--     SettledIsFound, CrashIsFound   two laws: which tables are found, at the end of a run without a
--                                    fault, and after any call
--     CrashStays                     a law: what a crash may leave behind a fault stays so
use Rattle.std.specs.Prelude.{◌≡◌, ◌⊎◌, false, List, Option, Some, IsTrue}
use Rattle.sqlite_disk.specs.declared.Disk.{Ghosts}
use Rattle.sqlite_wal.specs.Recovery.{Image}
use Rattle.sqlite_store.specs.declared.store.FileStore.{FileStore}
use Rattle.sqlite_store.specs.FileStore.{state, view, recovers}
use Rattle.sqlite.specs.State.{HasCleanDisk, IsLive}
use Rattle.sqlite.specs.Held.{Held, IsConnected}
use Rattle.sqlite.specs.Files.{file_state}
use Rattle.sqlite.specs.Start.{FindsIn}
use Rattle.mk_outside.specs.declared.tables.Tables.{Tables}
use Rattle.mk_outside.specs.declared.tables.Change.{Change}
use Rattle.mk_outside.specs.Tables.{after_batch}
use Rattle.mk_sqlite.specs.Keeps.{IsSoundState, told_in, OnCrash, LeavesNoMore}

-- What each connection of the toolchain keeps true of itself, as its invariant, and hands on in no
-- clause: its store numbers the trees as they are listed, they are sound, and so is what a crash
-- leaves.
abbrev pub IsUpheld : {D : Type 0} {g : Ghosts D} → Held (FileStore D g) → Type 0
IsUpheld c = IsConnected (view c.store) (recovers c.store) c.schema c.saved c.in_transaction

-- the log and the database file may hold this once nothing more is done by the connection, whether
-- its process ends, is stopped or loses power
abbrev pub MayHold : {D : Type 0} {g : Ghosts D} → Held (FileStore D g) → Image → Type 0
MayHold c image = (state c.store).may_leave image

-- it finds what files of this content hold, and its databases are sound, as an opening says
pub record IsOpenedOver {D : Type 0} {g : Ghosts D} (image : Image) (c : Held (FileStore D g)) : Type 0 where
  pub finds : FindsIn image (file_state c)
  pub live : IsLive (file_state c)

-- A connection that is sound, as after each call without a fault, settles what is found: whatever
-- its files are left with, a sound connection that is opened over that tells the same tables.
abbrev pub SettledIsFound : {D E : Type 0} → Ghosts D → Ghosts E → Type 0
SettledIsFound {D} {E} g h =
    (c : Held (FileStore D g)) (image : Image) (later : Held (FileStore E h)) → IsUpheld c → IsSoundState (file_state c) → MayHold c image
    → IsOpenedOver image later → IsSoundState (file_state later) → told_in (file_state later) ≡ told_in (file_state c)

-- After any call, also one in which the disk failed, a sound connection that is opened over what the
-- files are left with tells the tables before the batch, or those after it.
abbrev pub CrashIsFound : {D E : Type 0} → Ghosts D → Ghosts E → Type 0
CrashIsFound {D} {E} g h =
    (old c : Held (FileStore D g)) (batch : List Change) (t : Tables) (image : Image) (later : Held (FileStore E h))
    → OnCrash (file_state old) (file_state c) batch → told_in (file_state old) ≡ Some t → IsUpheld c → HasCleanDisk (file_state c) → MayHold c image
    → IsOpenedOver image later → IsSoundState (file_state later)
    → ∥ (told_in (file_state later) ≡ Some t) ⊎ (told_in (file_state later) ≡ Some (after_batch batch t)) ∥₁

-- what is true of a crash behind the call whose fault shut the connection is true behind each later
-- one
abbrev pub CrashStays : {D : Type 0} → Ghosts D → Type 0
CrashStays {D} g =
    (old c next : Held (FileStore D g)) (batch : List Change) → OnCrash (file_state old) (file_state c) batch → (file_state c).is_open ≡ false
    → LeavesNoMore (file_state c) (file_state next) → OnCrash (file_state old) (file_state next) batch
