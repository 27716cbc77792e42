-- A database whose files were closed and opened again.
use Rattle.std.proofs.Math.Logic.{∥∥₁_elim}
use Rattle.std.proofs.Common.{◌≡◌, ◌∙◌, ◌⊎◌, inl, inr, [], Option, Some, None, Result, Ok, Err, IfOk, IfSome, IsTrue, refl, sym, ap, subst}
use Rattle.sqlite_disk.specs.declared.Disk.{Ghosts}
use Rattle.sqlite_disk.specs.declared.Files.{Files}
use Rattle.sqlite_disk.specs.Disk.{MoreFaults}
use Rattle.sqlite_trees.specs.Tree.{Trees}
use Rattle.sqlite_trees.specs.Objects.{catalog_tree}
use Rattle.sqlite_trees.specs.Sound.{is_sound_list}
use Rattle.sqlite_trees.specs.declared.error.StoreError.{StoreError}
use Rattle.sqlite_trees.specs.declared.error.StoreError.TheVariants as stored
use Rattle.sqlite_store.specs.declared.store.FileStore.{FileStore}
use Rattle.sqlite_schema.specs.declared.schema.Schema.{Schema}
use Rattle.sqlite_catalog.specs.Listing.{Lists}
use Rattle.sqlite_catalog.proofs.ReadLemmas.{lists_once}
use Rattle.sqlite.specs.Effect.{Database, IsDatabase}
use Rattle.sqlite.specs.State.{State, HasCleanDisk, Opens, store_error}
use Rattle.sqlite.specs.Held.{Held}
use Rattle.sqlite.specs.Files.{over_files, file_state, faults_of, faults_left, AreFoundIn, ExcusesClose, FailsToClose, FailsToOpenFiles, IsEmpty, IsOpened}
use Rattle.sqlite.specs.Closing.{IsCopied}
use Rattle.sqlite.specs.declared.file.Leftover.{Leftover}
use Rattle.sqlite.specs.Start.{FindsIn}
use Rattle.sqlite.specs.declared.error.Error.{Error}
use Rattle.sqlite_wal.specs.Recovery.{Image}
use Rattle.mk_outside.specs.declared.tables.Tables.{Tables}
use Rattle.mk_outside.specs.declared.answers.KeepFail.{KeepFail}
use Rattle.mk_outside.specs.Tables.{no_tables}
use Rattle.mk_sqlite.specs.Layout.{no_table, schema_at, stage_of}
use Rattle.mk_sqlite.specs.Told.{tables_of}
use Rattle.mk_sqlite.specs.Keeper.{kept_tables, IsKeptSound}
use Rattle.mk_sqlite.specs.Fails.{fail_of, opened_of}
use Rattle.mk_sqlite.specs.Again.{IsNotClosed, IsNotOpened}
use Rattle.mk_sqlite.specs.Keeps.{IsSoundState, told_in, StandsFor, HoldNone, FilesStandFor}
use Rattle.mk_sqlite.proofs.LayoutLemmas.{stage_again}
use Rattle.mk_sqlite.proofs.KeepsLemmas.{told_sound, sound_tells, if_some}

-- the trees tell the schema, and so the tables
pub same_database : (a b : Database) → IsDatabase a → IsDatabase b → a.trees ≡ b.trees → a ≡ b
same_database a b p q same =
    let schema : a.schema ≡ b.schema = lists_once (a.trees catalog_tree) a.schema b.schema p.lists (subst (λ (trees : Trees). Lists (trees catalog_tree) b.schema) (sym same) q.lists) in
    ap (λ (s : Schema). record { schema = s; trees = a.trees }) schema ∙ ap (λ (trees : Trees). record { schema = b.schema; trees = trees }) same

-- trees that stand for tables tell them in each database that has them
pub stands_tells : (db : Database) (trees : Trees) (t : Tables) → IsDatabase db → db.trees ≡ trees → StandsFor trees t → tables_of db ≡ Some t
stands_tells db trees t is same stands = ap tables_of (same_database db (record { schema = stands.0; trees = trees }) is stands.1 same) ∙ stands.2

-- trees that are found tell the tables that they stand for
pub starts_told : (new : State) (trees : Trees) (t : Tables) → (IsTrue new.is_open → IsDatabase new.committed) → new.committed.trees ≡ trees → StandsFor trees t → IsSoundState new → told_in new ≡
    Some t
starts_told new trees t live same stands sound = sound_tells new sound ∙ stands_tells new.committed trees t (live sound.is_open) same stands

-- ---- files without a database

-- an empty list of objects lists no table
lists_nothing : Lists [] (schema_at no_table)
unfolding is_sound_list
lists_nothing = record { listed = record { tables = tt; indexes = tt; views = tt; owned = tt; named = tt; loads = refl }; guarded = tt }

-- without a table there are no rows
tells_nothing : (db : Database) → db.schema ≡ schema_at no_table → tables_of db ≡ Some no_tables
unfolding tables_of
tells_nothing db has = rw (ap stage_of has ∙ stage_again no_table) refl

-- a database that lists no object stands for tables without rows
empty_tells : (db : Database) → IsDatabase db → db.trees catalog_tree ≡ [] → tables_of db ≡ Some no_tables
empty_tells db is none =
    tells_nothing db (lists_once (db.trees catalog_tree) db.schema (schema_at no_table) is.lists (subst (λ rows. Lists rows (schema_at no_table)) (sym none) lists_nothing))

-- what is found in files that hold no database is empty
found_empty : (image : Image) (db : Database) → IsDatabase db → AreFoundIn image db.trees → HoldNone image → IsEmpty db.trees
found_empty image db is (inl h) none =
    absurd (∥∥₁_elim h.4 (λ x y. absurd x) (λ ours. none h.0 db.trees (record { pages = h.1; wanted = h.2; schema = db.schema; found = h.3; ours = ours; reads = h.5; sound = is })))
found_empty image db is (inr h) none = h.1

-- a sound connection to files that stand for tables tells them
pub files_told : (image : Image) (new : State) (t : Tables) → (IsTrue new.is_open → IsDatabase new.committed) → FindsIn image new → FilesStandFor image t
    → IsSoundState new → told_in new ≡ Some t
files_told image new t live finds (inl h) sound = starts_told new h.0 t live (finds.holds h.0 h.1) h.2 sound
files_told image new t live finds (inr h) sound =
    let is = live sound.is_open in
    sound_tells new sound ∙ empty_tells new.committed is (found_empty image new.committed is finds.reads h.0).1 ∙ ap Some (sym h.1)

-- ---- files that are opened again

-- a database that is found again tells the same tables
pub told_again : (old new : State) → (IsTrue old.is_open → IsDatabase old.committed) → (IsTrue new.is_open → IsDatabase new.committed) → new.committed.trees ≡ old.committed.trees
    → IsSoundState new → IfSome (told_in old) (λ t. told_in new ≡ Some t)
told_again old new before after same sound = if_some (told_in old) _ (λ t told.
    let it = told_sound old t told in
    sound_tells new sound ∙ ap tables_of (same_database new.committed old.committed (after sound.is_open) (before it.0.is_open) same) ∙ it.1)

-- a connection that was just opened is sound
pub opened_sound : (s : State) → HasCleanDisk s → Opens s → IsSoundState s
opened_sound s clean opens = record { clean = clean; is_open = opens.is_open; idle = opens.autocommit }

-- ---- files that aren't closed, or not opened again

module _ {D : Type 0} {g : Ghosts D} where
  -- each cause of a store that isn't closed is a keeper's
  closing_cause : (c : Held (FileStore D g)) (last : FileStore D g) (cause : StoreError) → ExcusesClose c last cause → IsNotClosed c last (fail_of (store_error cause))
  closing_cause c last stored.OutOfMemory h = tt
  closing_cause c last stored.Io h = inr h
  closing_cause c last stored.Corrupt h = inr h
  closing_cause c last stored.Full h = inr h
  closing_cause c last stored.Broken h = h
  closing_cause c last stored.Unstorable h = absurd h

  -- files that aren't closed have a cause
  pub not_closed : (c : Held (FileStore D g)) (last : FileStore D g) (e : Error) → FailsToClose c last e → IsNotClosed c last (fail_of e)
  not_closed c last e h = rw h.1 (closing_cause c last h.0 h.2)

  -- a fault by any name is one
  opening_fault : (files : Files D) (left : Leftover D g) (kind : StoreError) → MoreFaults (faults_of g files) (faults_left left) → IsNotOpened files left (fail_of (store_error kind))
  opening_fault files left stored.OutOfMemory more = tt
  opening_fault files left stored.Io more = inl more
  opening_fault files left stored.Corrupt more = inl more
  opening_fault files left stored.Full more = inl more
  opening_fault files left stored.Broken more = inl more
  opening_fault files left stored.Unstorable more = inl more

  -- files that hold the last commit aren't refused, so where they aren't opened that has a cause
  pub not_opened : (c : Held (FileStore D g)) (files : Files D) (left : Leftover D g) (e : Error) → IsCopied c files → FailsToOpenFiles files left e → IsNotOpened files left (fail_of e)
  not_opened c files left e copied (inl memory) = rw memory tt
  not_opened c files left e copied (inr (inl refused)) = absurd (∥∥₁_elim copied.seen.both (λ x y. absurd x) (λ held. refused.1 (inl (_, held))))
  not_opened c files left e copied (inr (inr (inl failed))) = rw failed.0 (opening_fault files left _ failed.1)
  not_opened c files left e copied (inr (inr (inr full))) = rw full.0 (inr full.1)

-- ---- keepers that were just opened

module _ {D : Type 0} {g : Ghosts D} where
  -- an opened keeper is sound while the disk is clean
  pub keeper_sound : (r : Result (Held (FileStore D g)) KeepFail) → IfOk r (λ c. HasCleanDisk (file_state c) → IsOpened c) → IfOk r (λ c. HasCleanDisk (file_state c) → IsKeptSound over_files r)
  keeper_sound (Ok c) opened = λ clean. opened_sound (file_state c) clean (opened clean).0
  keeper_sound (Err e) opened = tt

  -- and tells the tables that the files stand for
  pub keeper_starts : (image : Image) (r : Result (Held (FileStore D g)) KeepFail)
      → IfOk r (λ c. HasCleanDisk (file_state c) → IsOpened c) → IfOk r (λ c. HasCleanDisk (file_state c) → FindsIn image (file_state c))
      → (t : Tables) → FilesStandFor image t → IsKeptSound over_files r → kept_tables over_files r ≡ Some t
  keeper_starts image (Ok c) opened found t stand sound = files_told image (file_state c) t (λ opens. ((opened sound.clean).1 opens).1) (found sound.clean) stand sound
  keeper_starts image (Err e) opened found t stand sound = absurd sound

-- what holds of what was opened holds of the keeper's
pub if_opened : {A L : Type 0} (r : Result A (Error × L)) (s : Result A KeepFail) (P : A → Type 0) → s ≡ opened_of r → IfOk r P → IfOk s P
if_opened (Ok a) s P same h = rw same h
if_opened (Err e) s P same h = rw same tt
