-- A session from a keeper.
--     IsLoaded ..           what was loaded
--     Begins, IsOpened      the session that is begun, or the first row that doesn't read
use Rattle.std.specs.Prelude.{◌≡◌, ℕ, Bool, true, false, Option, Some, Result, Ok, Err, IfSome, ⊤}
use Rattle.mk_outside.specs.declared.tables.Tables.{Tables}
use Rattle.mk_kept.specs.declared.stored_rows.BeginFail.{BeginFail}
use Rattle.mk_kept.specs.declared.stored_rows.BeginFail.TheVariants as begin
use Rattle.mk_kept.specs.declared.stored_rows.RowKind.{RowKind}
use Rattle.mk_session.specs.Outcomes.{Agrees}
use Rattle.mk_kept.specs.StoredRows.{AllRead, IsFirstBad}

-- what was loaded, which is what is told where the keeper is sound
pub record IsLoaded (sound : Type 0) (told told' : Option Tables) (t : Tables) : Type 0 where
  pub is_told : sound → Agrees told t
  pub stays : sound → IfSome told (λ _. told' ≡ Some t)

-- some tables are those that the keeper holds, whether they were loaded or not
pub record IsHeldByKeeper (sound : Type 0) (told told' : Option Tables) : Type 0 where
  pub t : Tables
  pub loaded : IsLoaded sound told told' t

-- the keeper's tables have this first row that doesn't read
pub record IsBad (sound : Type 0) (told told' : Option Tables) (kind : RowKind) (number : ℕ) : Type 0 where
  pub t : Tables
  pub loaded : IsLoaded sound told told' t
  pub bad : IsFirstBad t kind number

abbrev pub Begins : Type 0 → Option Tables → Option Tables → Result Tables BeginFail → Type 0
Begins sound told told' (Ok t) = IsLoaded sound told told' t × AllRead t
Begins sound told told' (Err begin.Store) = IsHeldByKeeper sound told told'
Begins sound told told' (Err (begin.BadStore kind number)) = IsBad sound told told' kind number
Begins sound told told' (Err begin.Memory) = IsHeldByKeeper sound told told'

-- the session of the tables, or their first row that doesn't read
abbrev pub IsOpened : Tables → Result Tables BeginFail → Type 0
IsOpened t (Ok session) = (session ≡ t) × AllRead t
IsOpened t (Err begin.Store) = ⊥
IsOpened t (Err (begin.BadStore kind number)) = IsFirstBad t kind number
IsOpened t (Err begin.Memory) = ⊤

abbrev pub is_store : {A : Type 0} → Result A BeginFail → Bool
is_store (Ok t) = false
is_store (Err begin.Store) = true
is_store (Err (begin.BadStore kind number)) = false
is_store (Err begin.Memory) = false
