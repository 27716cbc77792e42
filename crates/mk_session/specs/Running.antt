-- A run once the input is read.
--     Leaves ..    what it leaves
--     Opens ..     the store is opened, or the run has ended
--     SaysLine ..  its one line
--     IsUnread ..  where a file wasn't read, nothing was written
use Rattle.std.specs.Prelude.{◌≡◌, ℕ, List, [], ◌++◌, Option, Some, Result, Ok, Err, IfSome, ⊤}
use Rattle.mk_outside.specs.Counts.{Rose}
use Rattle.mk_outside.specs.declared.tables.Tables.{Tables}
use Rattle.mk_session.specs.declared.status.Status.{Status}
use Rattle.mk_session.specs.declared.status.Status.TheVariants as status
use Rattle.mk_session.specs.declared.work.Work.{Work}
use Rattle.mk_session.specs.declared.work.Work.TheVariants as work
use Rattle.mk_session.specs.Ends.{Ends}
use Rattle.mk_session.specs.Faults.{Faults}
use Rattle.mk_found.specs.Files.{Look}
use Rattle.mk_session.specs.Outcomes.{Agrees}
use Rattle.mk_session.specs.Orders.{Asked, Order, Orders, orders_asked}
use Rattle.mk_session.specs.Run.{Misses}
use Rattle.mk_kept.specs.StoredRows.{AllRead}
use Rattle.mk_session.specs.Opening.{IsLoaded}

pub record Leaves (sound : Type 0) (files : Option Look) (asked : Asked) (told told' : Option Tables)
    (so_far so_far' : Option (List ℕ)) (old new : Faults) (missed missed' : ℕ) (ends : Status) : Type 0 where
  pub t : Tables
  pub added : List ℕ
  pub left : Tables
  pub tables_told : sound → Agrees told t
  pub kept : sound → IfSome told (λ _. told' ≡ Some left)
  pub written : IfSome so_far (λ s. so_far' ≡ Some (s ++ added))
  pub ends_so : Ends files t asked old new added left ends
  pub misses : Misses files t (orders_asked asked) missed missed'

-- the store is opened, or the run has ended
abbrev pub Opens : Type 0 → Option Look → List Order → Option Tables → Option Tables → Option (List ℕ) → Option (List ℕ) → Faults → Faults → ℕ → Result Tables Status → Type 0
Opens sound files orders told told' so_far so_far' old new missed (Ok t) = IsLoaded sound told told' t × AllRead t × (so_far' ≡ so_far) × (new ≡ old)
Opens sound files orders told told' so_far so_far' old new missed (Err ends) = Leaves sound files (Orders orders) told told' so_far so_far' old new missed missed ends

-- ---- what the words and the input ask for

-- the whole line was written, or a part of it: a prefix where the output failed, and nothing for
-- want of memory
pub data IsSaid (old new : ℕ) (line part : List ℕ) (would ends : Status) : Type 0 where
  SaidWhole : part ≡ line → new ≡ old → ends ≡ would → IsSaid old new line part would ends
  SaidFailed : (rest : List ℕ) → line ≡ part ++ rest → Rose old new → ends ≡ status.Write → IsSaid old new line part would ends
  SaidNoMemory : part ≡ [] → new ≡ old → ends ≡ status.Memory → IsSaid old new line part would ends

-- a line was to be written, with this status behind it
pub record SaysLine (so_far so_far' : Option (List ℕ)) (old new : ℕ) (line : List ℕ) (would ends : Status) : Type 0 where
  pub part : List ℕ
  pub written : IfSome so_far (λ s. so_far' ≡ Some (s ++ part))
  pub said : IsSaid old new line part would ends

-- ---- outputs

-- where a file wasn't read nothing was written, told or not
abbrev pub IsUnreadStatus : Option (List ℕ) → Option (List ℕ) → Status → Type 0
IsUnreadStatus so_far so_far' status.Read = so_far' ≡ so_far
IsUnreadStatus so_far so_far' _ = ⊤

abbrev pub IsUnread : {A : Type 0} → Option (List ℕ) → Option (List ℕ) → Result A Status → Type 0
IsUnread so_far so_far' (Ok done) = ⊤
IsUnread so_far so_far' (Err ends) = IsUnreadStatus so_far so_far' ends

-- the same of one order; in a script others may be answered before
abbrev pub IsUnreadWork : {A : Type 0} → Work → Option (List ℕ) → Option (List ℕ) → Result A Status → Type 0
IsUnreadWork (work.One order) so_far so_far' ends = IsUnread so_far so_far' ends
IsUnreadWork (work.Script text lines) so_far so_far' ends = ⊤

abbrev pub IsUnreadGiven : Work → Option (List ℕ) → Option (List ℕ) → Status → Type 0
IsUnreadGiven (work.One order) so_far so_far' ends = IsUnreadStatus so_far so_far' ends
IsUnreadGiven (work.Script text lines) so_far so_far' ends = ⊤
