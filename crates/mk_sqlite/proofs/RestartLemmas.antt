-- What is found of files by a connection that is opened over them.
--     settled_is_found, crash_is_found, crash_stays      the laws
use Rattle.std.proofs.Math.Logic.{∥∥₁_elim, ∥∥₁_map}
use Rattle.std.proofs.Common.{◌≡◌, ◌∙◌, ◌⊎◌, inl, inr, List, Some, refl, sym, ap}
use Rattle.sqlite_disk.specs.declared.Disk.{Ghosts}
use Rattle.sqlite_wal.specs.Recovery.{Image}
use Rattle.sqlite_wal.proofs.LogLemmas.{SeenMayStay}
use Rattle.sqlite_trees.specs.Props.{Trees-set}
use Rattle.sqlite_store.specs.declared.store.FileStore.{FileStore}
use Rattle.sqlite_store.specs.Laws.{settled_at}
use Rattle.sqlite.specs.Held.{Held}
use Rattle.sqlite.specs.Files.{file_state}
use Rattle.sqlite.proofs.Theorems.{next_run}
use Rattle.mk_outside.specs.declared.tables.Tables.{Tables}
use Rattle.mk_outside.specs.declared.tables.Change.{Change}
use Rattle.mk_sqlite.specs.Told.{tables_of}
use Rattle.mk_sqlite.specs.Keeps.{told_in}
use Rattle.mk_sqlite.specs.Restart.{SettledIsFound, CrashIsFound, CrashStays}
use Rattle.mk_sqlite.proofs.KeepsLemmas.{sound_tells, if_some_as}
use Rattle.mk_sqlite.proofs.AgainLemmas.{same_database, starts_told}

module _ {D E : Type 0} {g : Ghosts D} {h : Ghosts E} where
  -- whatever a sound connection leaves, the same tables are found
  pub settled_is_found : SeenMayStay g → SettledIsFound g h
  settled_is_found stays c image later upheld sound may opened is_sound =
      let trees : (file_state later).committed.trees ≡ (file_state c).committed.trees =
      ∥∥₁_elim (next_run c.store (upheld.numbered sound.clean) (upheld.found sound.clean) image may (file_state later) opened.finds) (Trees-set _ _)
      (λ found. settled_at c.store stays _ sound.is_open found) in
      let same = same_database (file_state later).committed (file_state c).committed (opened.live is_sound.is_open).1 (upheld.kept sound.is_open) trees in
      sound_tells (file_state later) is_sound ∙ ap tables_of same ∙ sym (sound_tells (file_state c) sound)

  -- after any call the tables before it or those after it are found
  pub crash_is_found : CrashIsFound g h
  crash_is_found old c batch t image later crash told upheld clean may opened is_sound =
      let left = rw told at crash clean in
      ∥∥₁_map (next_run c.store (upheld.numbered clean) (upheld.found clean) image may (file_state later) opened.finds)
      (λ found. elim (left (file_state later).committed.trees found) [
        | inl before ↦ inl (starts_told (file_state later) _ t (λ opens. (opened.live opens).1) refl before is_sound)
        | inr after ↦ inr (starts_told (file_state later) _ _ (λ opens. (opened.live opens).1) refl after is_sound)
      ])

-- behind a fault nothing more is left
pub crash_stays : {D : Type 0} {g : Ghosts D} → CrashStays g
crash_stays old c next batch crash shut leaves clean =
    let less = leaves shut clean in
    if_some_as (told_in (file_state old)) _ _ (λ t left db may. left db (less.1 db may)) (crash less.0)
