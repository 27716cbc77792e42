-- How often a command on a session begins the matcher.
--     BeginsOfCommand t command effect old new     from the tables t, where it comes to this effect
--     BeginsOfDone files t t' command ..           where it is done, with the tables that it leaves
--                                                  and the answer that is added
--     SearchesBeginUpToPlace, ResumesBeginUpToPlace     laws: what is begun for a search that is
--                                                  saved is what lies up to the place that is saved
use Rattle.std.specs.Prelude.{◌≡◌, ℕ, List, [], ◌++◌, Option, Some, None, ⊤}
use Rattle.mk_outside.specs.declared.tables.CursorRow.{CursorRow}
use Rattle.mk_outside.specs.declared.tables.Tables.{Tables}
use Rattle.mk_words.specs.declared.command.Command.{Command}
use Rattle.mk_words.specs.declared.command.Command.TheVariants as variant
use Rattle.mk_session.specs.declared.status.Ended.{Ended}
use Rattle.mk_kept.specs.Named.{search_of}
use Rattle.mk_found.specs.Effects.{Effect, after_effect, text_answered}
use Rattle.mk_found.specs.Files.{Look}
use Rattle.mk_effects.specs.Ticks.{BeginsBetween, BeginsOfResume, BeginsOfSearch}
use Rattle.mk_rtable.specs.Answer.{BeginsOfTableAnswer}
use Rattle.mk_session.specs.Step.{Comes}
use Rattle.mk_session.specs.Stepping.{ended_of}

-- `search` and `resume` begin the matcher as the page that they list does, and `table` as the rows
-- that it writes do. How often `match` does isn't said. No other command begins it; `drill` counts
-- for itself.
abbrev pub BeginsOfCommand : Tables → Command → Effect → ℕ → ℕ → Type 0
BeginsOfCommand t (variant.Match query molecules) effect old new = ⊤
BeginsOfCommand t (variant.Search name limit budget) effect old new = BeginsOfSearch t name limit budget effect old new
BeginsOfCommand t (variant.Resume cursor limit budget) effect old new = BeginsOfResume t cursor limit budget effect old new
BeginsOfCommand t (variant.Table name) effect old new = BeginsOfTableAnswer t name effect old new
BeginsOfCommand t _ effect old new = new ≡ old

-- The command came to one effect: it left the tables that the effect makes, its text is added to the
-- answer, and the matcher was begun as often as for it.
pub record BeginsOfDone (files : Option Look) (t t' : Tables) (command : Command) (old new : List ℕ) (before after : ℕ) (e : Ended) : Type 0 where
  pub effect : Effect
  pub comes : Comes files t (Some command) effect
  pub tables : t' ≡ after_effect effect t
  pub answer : new ≡ old ++ text_answered effect
  pub ends : e ≡ ended_of effect
  pub begins : BeginsOfCommand t command effect before after

-- ---- laws

-- Behind a `search` within a budget whose number was free before, a search that is saved under it
-- stands at the place up to which the matcher was begun, from the first on.
abbrev pub SearchesBeginUpToPlace : Type 0
SearchesBeginUpToPlace =
    (files : Option Look) (t t' : Tables) (name : List ℕ) (limit budget : ℕ) (old new : List ℕ) (before after : ℕ) (e : Ended) (row : CursorRow)
    → BeginsOfDone files t t' (variant.Search name limit (Some budget)) old new before after e
    → search_of t.next_cursor t.cursors ≡ None → search_of t.next_cursor t'.cursors ≡ Some row
    → BeginsBetween t name [] row.place before after

-- Behind a `resume` within a budget, a search that is still saved stands at the place up to which the
-- matcher was begun, from the place before on.
abbrev pub ResumesBeginUpToPlace : Type 0
ResumesBeginUpToPlace =
    (files : Option Look) (t t' : Tables) (c limit budget : ℕ) (old new : List ℕ) (before after : ℕ) (e : Ended) (was row : CursorRow)
    → BeginsOfDone files t t' (variant.Resume c limit (Some budget)) old new before after e
    → search_of c t.cursors ≡ Some was → search_of c t'.cursors ≡ Some row
    → BeginsBetween t was.name was.place row.place before after
