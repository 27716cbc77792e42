-- What a run of the program leaves. This is the statement that the program stands on.
--     Headline ..     the statement
use Rattle.std.specs.Prelude.{◌≡◌, ◌≢◌, ℕ, List, [], ◌++◌, Some, IfSome}
use Rattle.mk_outside.specs.declared.tables.Tables.{Tables}
use Rattle.mk_words.specs.declared.command.WordsKind.TheVariants as words_kind
use Rattle.mk_session.specs.declared.status.Status.{Status}
use Rattle.mk_session.specs.declared.status.Status.TheVariants as status
use Rattle.mk_words.specs.Commands.{kind_of_words}
use Rattle.mk_session.specs.Orders.{Order, Orders, asked, orders_asked}
use Rattle.mk_session.specs.Outcomes.{World, Agrees, WentSo, IsAnswered, IsWholeRun, IsQuiet, IsReadOut, IsAllDone, IsInputSame, IsInputTaken, IsRestSame}
use Rattle.mk_session.specs.Run.{IsRun, Misses}
use Rattle.mk_kept.specs.StoredRows.{AllRead}

-- What stands after each run: the bytes that it read and wrote and the tables that it left, that
-- they are the run's where nothing failed, and what every status says of what was done.
pub record Headline (sound : Type 0) (words : List (List ℕ)) (old new : World) (ends : Status) : Type 0 where
  -- The input held these bytes and the keeper these tables; the run added these bytes to the output
  -- and left these tables. Each is the told one where one is told, for the keeper where it is sound
  -- at the end.
  pub input : List ℕ
  pub t : Tables
  pub added : List ℕ
  pub left : Tables
  pub input_told : Agrees old.input input
  pub tables_told : sound → Agrees old.tables t
  pub written : IfSome old.output (λ so_far. new.output ≡ Some (so_far ++ added))
  pub kept : sound → IfSome old.tables (λ _. new.tables ≡ Some left)
  pub went_so : WentSo words input t old new added left ends
  -- Whatever the counts were, a status of an answer comes with the whole of a run.
  pub answered : IsAnswered ends → IsWholeRun old.files t (asked words input) old.faults new.faults added left ends
  -- Where no object that was handed in failed and memory sufficed, bytes, tables and status are the
  -- run's. So each `match`, and without a budget each `search` and `resume`, lists exactly the first
  -- hits in what is held at its turn, each once and in rising order.
  pub headline : IsQuiet old new → ends ≢ status.Memory → IsRun old.files t (asked words input) added left ends
  -- Where besides the words or the script ask for commands and every stored row reads, all commands
  -- are done.
  pub complete : IsQuiet old new → ends ≢ status.Memory → (orders : List Order) → asked words input ≡ Orders orders → AllRead t → IsAllDone ends
  -- The input is read to its end, or isn't touched. In any case no more is read than a script that
  -- is too long needs. Where the words aren't understood, the files and the keeper aren't touched
  -- either.
  pub input_end : kind_of_words words ≡ words_kind.Script → IsReadOut ends → IfSome old.input (λ _. new.input ≡ Some [])
  pub input_same : kind_of_words words ≢ words_kind.Script → IsInputSame old new
  pub input_taken : IsInputTaken old.input new.input
  pub rest_same : kind_of_words words ≡ words_kind.NotUnderstood → IsRestSame old new
  -- No file is missed where each is there whose turn comes.
  pub missed : Misses old.files t (orders_asked (asked words input)) old.absences new.absences
