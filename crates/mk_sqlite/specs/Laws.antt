-- The law of `Keeper`: a keeper that isn't sound tells nothing.
use Rattle.std.specs.Prelude.{Bool, true, false, if◌then◌else◌, Option, Some, None, Result, Ok, Err, IsSome, ◌≡◌, refl}
use Rattle.std.proofs.lemmas.Bool.{and_parts, eqb-true, not-true}
use Rattle.sqlite_trees.specs.declared.store.Store.{Ghosts}
use Rattle.sqlite.specs.State.{State}
use Rattle.sqlite.specs.Held.{Held, state}
use Rattle.mk_outside.specs.declared.tables.Tables.{Tables}
use Rattle.mk_outside.specs.declared.answers.KeepFail.{KeepFail}
use Rattle.mk_sqlite.specs.Told.{tables_of}
use Rattle.mk_sqlite.specs.Keeps.{IsSoundState, is_sound, told_in}
use Rattle.mk_sqlite.specs.Keeper.{kept_tables, IsKeptSound}

-- a connection that isn't sound tells nothing
told_state : (s : State) → IsSome (told_in s) → IsSoundState s
unfolding told_in
told_state s told = go (is_sound s) refl told
  where
    go : (b : Bool) → is_sound s ≡ b → IsSome (if b then tables_of s.committed else None) → IsSoundState s
    go true is some =
        let p = and_parts _ _ is in
        let q = and_parts _ _ p.1 in
        record { clean = eqb-true _ _ p.0; is_open = q.0; idle = not-true _ q.1 }
    go false is some = absurd (cc)

-- a keeper that isn't sound tells nothing
pub told_is_sound : {S : Type 0} (g : Ghosts S) (opened : Result (Held S) KeepFail) → IsSome (kept_tables g opened) → IsKeptSound g opened
told_is_sound g (Ok c) told = told_state (state g c) told
told_is_sound g (Err fail) told = absurd (cc)
