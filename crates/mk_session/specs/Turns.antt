-- Some orders, with their answers written.
--     Turns ..     from some tables to others, and whether one was refused, or how the run ends
use Rattle.std.specs.Prelude.{◌≡◌, ℕ, Bool, List, ◌++◌, Option, Some, Result, Ok, Err, IfSome}
use Rattle.std.specs.List.{list_any}
use Rattle.mk_outside.specs.declared.tables.Tables.{Tables}
use Rattle.mk_session.specs.declared.status.Status.{Status}
use Rattle.mk_found.specs.Effects.{Effect, is_refusal}
use Rattle.mk_session.specs.Run.{after_effects, texts, Does}
use Rattle.mk_session.specs.Ends.{Halts}
use Rattle.mk_session.specs.Faults.{Faults}
use Rattle.mk_found.specs.Files.{Look}
use Rattle.mk_session.specs.Orders.{Order}

-- all are done
pub record IsDoneAll (files : Option Look) (t t' : Tables) (orders : List Order) (so_far so_far' : Option (List ℕ)) (old new : Faults) (refused : Bool) : Type 0 where
  pub effects : List Effect
  pub does : Does files t orders effects
  pub tables : t' ≡ after_effects effects t
  pub written : IfSome so_far (λ s. so_far' ≡ Some (s ++ texts effects))
  pub counts : new ≡ old
  pub refuses : refused ≡ list_any is_refusal effects

-- not all are
pub record IsHalted (files : Option Look) (t t' : Tables) (orders : List Order) (so_far so_far' : Option (List ℕ)) (old new : Faults) (ends : Status) : Type 0 where
  pub added : List ℕ
  pub halts : Halts files t orders old new added t' ends
  pub written : IfSome so_far (λ s. so_far' ≡ Some (s ++ added))

-- some orders from the tables t to the tables t', and whether one was refused, or how the run ends
abbrev pub Turns : Option Look → Tables → Tables → List Order → Option (List ℕ) → Option (List ℕ) → Faults → Faults → Result Bool Status → Type 0
Turns files t t' orders so_far so_far' old new (Ok refused) = IsDoneAll files t t' orders so_far so_far' old new refused
Turns files t t' orders so_far so_far' old new (Err ends) = IsHalted files t t' orders so_far so_far' old new ends
