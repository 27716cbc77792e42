-- A session from tables that were loaded.
use Rattle.std.proofs.Common.{◌≡◌, false, Option, refl, sym, subst}
use Rattle.std.specs.Prelude.{Result, Ok, Err}
use Rattle.mk_outside.specs.declared.tables.Tables.{Tables}
use Rattle.mk_kept.specs.declared.stored_rows.BeginFail.{BeginFail}
use Rattle.mk_kept.specs.declared.stored_rows.BeginFail.TheVariants as begin
use Rattle.mk_library.specs.Library.{LibraryView}
use Rattle.mk_kept.specs.Saved.{SavedView}
use Rattle.mk_kept.specs.StoredRows.{AllRead, RecordsRead}
use Rattle.mk_session.specs.Opening.{Begins, IsLoaded, IsOpened, is_store}
use Rattle.mk_kept.specs.Restored.{IsRestored}
use Rattle.mk_found.specs.Findings.{stands_for}

-- tables that are opened are those that the keeper holds
pub begins_by : (sound : Type 0) (told told' : Option Tables) (t : Tables) (r : Result Tables BeginFail) → IsLoaded sound told told' t → IsOpened t r → Begins sound told told' r
begins_by sound told told' t (Ok s) loaded is = subst (λ (x : Tables). IsLoaded sound told told' x × AllRead x) (sym is.0) (loaded, is.1)
begins_by sound told told' t (Err begin.Store) loaded is = absurd is
begins_by sound told told' t (Err (begin.BadStore kind number)) loaded is = record { t = t; loaded = loaded; bad = is }
begins_by sound told told' t (Err begin.Memory) loaded is = record { t = t; loaded = loaded }

-- opening them fails for no keeper
pub no_store : (t : Tables) (r : Result Tables BeginFail) → IsOpened t r → is_store r ≡ false
no_store t (Ok s) is = refl
no_store t (Err begin.Store) is = absurd is
no_store t (Err (begin.BadStore kind number)) is = refl
no_store t (Err begin.Memory) is = refl

-- what doesn't read is what is said of opening, where the records read
pub opened_fail : (t : Tables) (fail : BeginFail) → RecordsRead t → IsRestored t (Err fail) → IsOpened t (Err fail)
opened_fail t begin.Store records is = is
opened_fail t (begin.BadStore kind number) records is = is records
opened_fail t begin.Memory records is = is

-- the library, the queries and the saved searches of tables stand for them
pub opened_tables : (t : Tables) (library : LibraryView) (saved : SavedView) → library.records ≡ t.records → library.next_record ≡ t.next_record
    → saved.queries ≡ t.queries → saved.cursors ≡ t.cursors → saved.next_cursor ≡ t.next_cursor → stands_for library saved ≡ t
opened_tables t library saved records next queries cursors next_cursor = rw (records, next, queries, cursors, next_cursor) refl
