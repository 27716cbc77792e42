-- What comes of closing the files of a keeper and opening them again.
--     AreClosed c files       the connection was closed for these files, and they hold its last
--                             commit
--     IsFoundAgain c new      and a connection was opened over them, which finds what they hold
--     FindsAgain old new      the same of keepers
--     IsNotClosed c last fail, IsNotOpened files left fail     why the one or the other failed
--     IsNotAgain old refused  why a keeper isn't opened again, by what is left of it
use Rattle.std.specs.Prelude.{◌≡◌, ◌⊎◌, false, ⊤, Result, Ok, Err}
use Rattle.sqlite_disk.specs.declared.Disk.{Ghosts}
use Rattle.sqlite_disk.specs.declared.Files.{Files}
use Rattle.sqlite_disk.specs.Disk.{MoreFaults}
use Rattle.sqlite_wal.specs.Reads.{AreClean}
use Rattle.sqlite_trees.specs.View.{IsClean}
use Rattle.sqlite_store.specs.declared.store.FileStore.{FileStore}
use Rattle.sqlite_store.specs.FileStore.{view, faults, files as files_of}
use Rattle.sqlite.specs.declared.file.Leftover.{Leftover}
use Rattle.sqlite.specs.State.{HasCleanDisk}
use Rattle.sqlite.specs.Held.{Held}
use Rattle.sqlite.specs.Files.{file_state, faults_of, faults_left, Finds, IsClosed, IsCleanLeft, IsFullLeft, IsOpened}
use Rattle.sqlite.specs.Closing.{IsCopied}
use Rattle.mk_outside.specs.declared.answers.KeepFail.{KeepFail}
use Rattle.mk_outside.specs.declared.answers.KeepFail.TheVariants as keep
use Rattle.mk_sqlite.specs.declared.restart.Rest.{Rest}
use Rattle.mk_sqlite.specs.declared.restart.Rest.TheVariants as rest

module _ {D : Type 0} {g : Ghosts D} where
  -- The connection was closed, by a store that gave up these files, and a crash leaves nothing new.
  -- While the disk returns what was written, the files hold its last commit, the database file
  -- alone.
  pub record AreClosed (c : Held (FileStore D g)) (files : Files D) : Type 0 where
    pub last : FileStore D g
    pub given_up : files_of last ≡ (files.log, files.db)
    pub closed : IsClosed c last
    pub copied : AreClean g files.log files.db → IsCopied c files

  -- The one connection was closed for some files, and the other opened over these. While the disk
  -- returns what was written, it finds what they hold.
  pub record IsFoundAgain (c new : Held (FileStore D g)) : Type 0 where
    pub files : Files D
    pub closed : AreClosed c files
    pub opened : HasCleanDisk (file_state new) → IsOpened new
    pub found : HasCleanDisk (file_state new) → Finds files new

  -- the same of the keepers of the two, which are both open
  abbrev pub FindsAgain : Result (Held (FileStore D g)) KeepFail → Result (Held (FileStore D g)) KeepFail → Type 0
  FindsAgain (Ok c) (Ok new) = IsFoundAgain c new
  FindsAgain (Ok c) (Err fail) = ⊥
  FindsAgain (Err fail) new = ⊥

  -- the files weren't closed: memory was wanting, the connection was shut, or its store failed
  abbrev pub IsNotClosed : Held (FileStore D g) → FileStore D g → KeepFail → Type 0
  IsNotClosed c last keep.Memory = ⊤
  IsNotClosed c last keep.Failed = ((file_state c).is_open ≡ false) ⊎ MoreFaults (faults c.store) (faults last)

  -- the files weren't opened: memory was wanting, one of their calls failed, or they have more pages
  -- than 32 bits number
  abbrev pub IsNotOpened : Files D → Leftover D g → KeepFail → Type 0
  IsNotOpened files left keep.Memory = ⊤
  IsNotOpened files left keep.Failed = MoreFaults (faults_of g files) (faults_left left) ⊎ IsFullLeft left

  -- Why a keeper isn't opened again, with what is left of it: it is shut, and says why; its files
  -- weren't closed; or they were, and weren't opened. The causes hold while the disk returns what was
  -- written.
  abbrev pub IsNotAgain : Result (Held (FileStore D g)) KeepFail → KeepFail × Rest D g → Type 0
  IsNotAgain (Err why) (fail, rest.Nothing) = fail ≡ why
  IsNotAgain (Ok c) (fail, rest.Nothing) = ⊥
  IsNotAgain (Ok c) (fail, rest.Store last) = IsClosed c last × (IsClean (view last) → IsNotClosed c last fail)
  IsNotAgain (Ok c) (fail, rest.Files left) =
      (files : Files D) × AreClosed c files × (AreClean g files.log files.db → IsCleanLeft left → IsNotOpened files left fail)
  IsNotAgain (Err why) (fail, rest.Store last) = ⊥
  IsNotAgain (Err why) (fail, rest.Files left) = ⊥
