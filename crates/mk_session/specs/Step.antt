-- One command on the tables. A further command is a further case here, and nothing above this file
-- changes by it.
--     Comes files t order effect       from the tables t the order comes to this effect
--     Reaches files t order name       the turn of the file comes: the order names it, and no
--                                      refusal before its turn holds
use Rattle.std.specs.Prelude.{◌≡◌, ℕ, List, [], Option, Some, None, codes}
use Rattle.mk_outside.specs.declared.tables.Tables.{Tables}
use Rattle.mk_words.specs.declared.command.Command.TheVariants as variant
use Rattle.mk_found.specs.Effects.{Answers, Effect, Refuses}
use Rattle.mk_found.specs.Files.{Look}
use Rattle.mk_edits.specs.Loading.{IsLoad, IsReplace, IsTurnOfReplace}
use Rattle.mk_effects.specs.Match.{IsMatch, IsTurnOfMatch}
use Rattle.mk_session.specs.Orders.{Order}
use Rattle.mk_query_edits.specs.Queries.{IsForget, IsKeep, IsTurnOfKeep}
use Rattle.mk_edits.specs.Records.{IsRemove, IsShow, list_text}
use Rattle.mk_effects.specs.Searching.{IsResume, IsSearch}
use Rattle.mk_effects.specs.Structures.{IsEnum}
use Rattle.mk_rtable.specs.Answer.{IsTableAnswer}
use Rattle.mk_drill.specs.Answer.{IsDrillAnswer}

abbrev pub no_command_text : List ℕ
no_command_text = codes "refused 1 command\n"

-- From the tables t the order comes to this effect. What is no command is refused.
abbrev pub Comes : Option Look → Tables → Order → Effect → Type 0
Comes files t None effect = effect ≡ Refuses no_command_text
Comes files t (Some (variant.Match query molecules)) effect = IsMatch files query molecules effect
Comes files t (Some (variant.Load file)) effect = IsLoad files t.records t.next_record file effect
Comes files t (Some (variant.Replace number file)) effect = IsReplace files t.records t.next_record number file effect
Comes files t (Some (variant.Remove number)) effect = IsRemove t.records number effect
Comes files t (Some (variant.Query name file)) effect = IsKeep files t.queries name file effect
Comes files t (Some (variant.Forget name)) effect = IsForget t.queries t.cursors name effect
Comes files t (Some (variant.Search name limit budget)) effect = IsSearch t name limit budget effect
Comes files t (Some (variant.Resume cursor limit budget)) effect = IsResume t cursor limit budget effect
Comes files t (Some (variant.Show number)) effect = IsShow t.records number effect
Comes files t (Some variant.List) effect = effect ≡ Answers [] (list_text t)
Comes files t (Some (variant.Table name)) effect = IsTableAnswer t name effect
Comes files t (Some (variant.Enum name limit from)) effect = IsEnum t.queries name limit from effect
Comes files t (Some (variant.Drill start count)) effect = IsDrillAnswer start count effect

-- the order names the file, and no refusal before the file's turn holds
abbrev pub Reaches : Option Look → Tables → Order → List ℕ → Type 0
Reaches files t (Some (variant.Match query molecules)) name = IsTurnOfMatch files query molecules name
Reaches files t (Some (variant.Load file)) name = name ≡ file
Reaches files t (Some (variant.Replace number file)) name = IsTurnOfReplace t.records number file name
Reaches files t (Some (variant.Query name file)) n = IsTurnOfKeep t.queries name file n
Reaches files t _ name = ⊥
