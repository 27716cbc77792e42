-- Laws of sessions.
--     SessionsAreScripts      without its frames a session is a run of a script
use Rattle.std.specs.Prelude.{ℕ, ◌≤◌, List, length, map, Option}
use Rattle.std.specs.List.{AllByRecursion}
use Rattle.mk_kept.specs.StoredRows.{AllRead}
use Rattle.mk_found.specs.Effects.{Effect}
use Rattle.mk_found.specs.Files.{Look}
use Rattle.mk_session.specs.Orders.{asked_of_script, script_bytes}
use Rattle.mk_session.specs.Run.{IsRun, status_behind, texts}
use Rattle.mk_talk.specs.Answers.{AreAnswers, Came, Held}
use Rattle.mk_talk.specs.Lines.{all_lines, line_bytes, orders_of_all}

-- An input that is no longer than a script, and no line of it longer than a line may be. Where each
-- of its lines is answered by what it comes to, none as unread and none for want of memory, a run
-- of the input as a script writes these answers without their frames, and leaves the same tables.
abbrev pub SessionsAreScripts : Type 0
SessionsAreScripts = (look : Option Look) (s s' : Held) (input : List ℕ) (effects : List Effect)
    → AllRead s.tables → length input ≤ script_bytes → AllByRecursion (λ line. length line ≤ line_bytes) (all_lines input)
    → AreAnswers look s s' (orders_of_all (all_lines input)) (map Came effects)
    → IsRun look s.tables (asked_of_script input) (texts effects) s'.tables (status_behind effects)
