-- Tables that a run leaves read, where those before it did. A further command is a further case of `command_goes_on`.
--     runs_keep_reading       the law
use Rattle.std.proofs.Common.{◌≡◌, ℕ, List, [], ◌∷◌, ◌++◌, length, Option, Some, None, refl, sym, subst}
use Rattle.std.specs.Prelude.{nat_lt}
use Rattle.std.specs.List.{AllByRecursion}
use Rattle.std.proofs.lemmas.Bool.{cond_both}
use Rattle.mk_text.specs.Lines.{lines_of}
use Rattle.mk_outside.specs.declared.tables.Tables.{Tables}
use Rattle.mk_library.specs.Edits.{Load}
use Rattle.mk_words.specs.declared.command.Command.{Command}
use Rattle.mk_words.specs.declared.command.Command.TheVariants as variant
use Rattle.mk_words.specs.declared.command.LineKind.{LineKind}
use Rattle.mk_words.specs.declared.command.LineKind.TheVariants as line_kind
use Rattle.mk_words.specs.declared.command.WordsKind.{WordsKind}
use Rattle.mk_words.specs.declared.command.WordsKind.TheVariants as words_kind
use Rattle.mk_words.specs.Commands.{CanAsk, CanAskLine, CanAskWords, kind_of_line, kind_of_words}
use Rattle.mk_found.specs.Effects.{Effect, after_effect}
use Rattle.mk_session.specs.Run.{after_effects, Commands, Does, OneLine}
use Rattle.mk_found.specs.Files.{Look}
use Rattle.mk_kept.specs.StoredRows.{CanGoOn}
use Rattle.mk_laws.specs.Laws.{RunsKeepReading}
use Rattle.mk_session.specs.Orders.{Asked, Order, Orders, TooMuch, asked_of, asked_of_script, orders_of, orders_of_kind, script_bytes}
use Rattle.mk_session.specs.Given.{CanAskOrder}
use Rattle.mk_session.specs.Step.{Comes}
use Rattle.mk_words.proofs.CommandLemmas.{can_ask_line, can_ask_words}
use Rattle.mk_laws.proofs.CommandsGoOnLemmas.{KeepingLaws, refused_goes_on, answered_goes_on, match_goes_on, edited_goes_on, replace_goes_on, remove_goes_on, show_goes_on, keep_goes_on, forget_goes_on, search_goes_on, table_goes_on, enum_goes_on, resume_goes_on}

-- ---- commands

command_goes_on : KeepingLaws → (files : Option Look) (t : Tables) (command : Command) (effect : Effect)
    → CanAsk command → Comes files t (Some command) effect → CanGoOn t → CanGoOn (after_effect effect t)
command_goes_on laws files t (variant.Match query molecules) effect asks comes go = match_goes_on files t query molecules effect comes go
command_goes_on laws files t (variant.Load file) effect asks comes go = edited_goes_on laws files t file Load _ effect comes go
command_goes_on laws files t (variant.Replace number file) effect asks comes go = replace_goes_on laws files t number file effect comes go
command_goes_on laws files t (variant.Remove number) effect asks comes go = remove_goes_on laws t number effect comes go
command_goes_on laws files t (variant.Query name file) effect asks comes go = keep_goes_on laws files t name file effect asks comes go
command_goes_on laws files t (variant.Forget name) effect asks comes go = forget_goes_on t name effect comes go
command_goes_on laws files t (variant.Search name limit budget) effect asks comes go = search_goes_on laws t name limit budget effect comes go
command_goes_on laws files t (variant.Resume cursor limit budget) effect asks comes go = resume_goes_on laws t cursor limit budget effect comes go
command_goes_on laws files t (variant.Show number) effect asks comes go = show_goes_on t number effect comes go
command_goes_on laws files t (variant.Table name) effect asks comes go = table_goes_on t name effect comes go
command_goes_on laws files t (variant.Enum name limit from) effect asks comes go = enum_goes_on t name limit from effect comes go
command_goes_on laws files t variant.List effect asks comes go = answered_goes_on t effect _ comes go
command_goes_on laws files t (variant.Drill start count) effect asks comes go = answered_goes_on t effect comes.line comes.whole go

-- ---- runs

order_goes_on : KeepingLaws → (files : Option Look) (t : Tables) (order : Order) (effect : Effect) → CanAskOrder order → Comes files t order effect → CanGoOn t → CanGoOn (after_effect effect t)
order_goes_on laws files t None effect asks comes go = refused_goes_on t effect _ comes go
order_goes_on laws files t (Some command) effect asks comes go = command_goes_on laws files t command effect asks comes go

pub orders_go_on : KeepingLaws → (files : Option Look) (t : Tables) (orders : List Order) (effects : List Effect)
    → AllByRecursion CanAskOrder orders → Does files t orders effects → CanGoOn t → CanGoOn (after_effects effects t)
orders_go_on laws files t [] [] ask does go = go
orders_go_on laws files t [] (effect ∷ effects) ask does go = absurd does
orders_go_on laws files t (order ∷ orders) [] ask does go = absurd does
orders_go_on laws files t (order ∷ orders) (effect ∷ effects) ask does go =
    orders_go_on laws files (after_effect effect t) orders effects ask.1 does.1 (order_goes_on laws files t order effect ask.0 does.0 go)

-- what lines and words ask for, a session can be asked
all_more : (xs ys : List Order) → AllByRecursion CanAskOrder xs → AllByRecursion CanAskOrder ys → AllByRecursion CanAskOrder (xs ++ ys)
all_more [] ys p q = q
all_more (x ∷ xs) ys p q = (p.0, all_more xs ys p.1 q)

kind_asks : (kind : LineKind) → CanAskLine kind → AllByRecursion CanAskOrder (orders_of_kind kind)
kind_asks line_kind.Blank asks = tt
kind_asks line_kind.NoCommand asks = (tt, tt)
kind_asks (line_kind.Is command) asks = (asks, tt)

pub lines_ask : (lines : List (List ℕ)) → AllByRecursion CanAskOrder (orders_of lines)
lines_ask [] = tt
lines_ask (line ∷ lines) = all_more (orders_of_kind (kind_of_line line)) (orders_of lines) (kind_asks (kind_of_line line) (can_ask_line line (kind_of_line line) refl)) (lines_ask lines)

same_orders : (a b : List Order) → Orders a ≡ Orders b → a ≡ b
same_orders a b is = cc

script_asks : (input : List ℕ) (orders : List Order) → asked_of_script input ≡ Orders orders → AllByRecursion CanAskOrder orders
script_asks input orders is =
    cond_both (nat_lt script_bytes (length input)) TooMuch (Orders (orders_of (lines_of input))) (λ (a : Asked). a ≡ Orders orders → AllByRecursion CanAskOrder orders)
    (λ _. λ e. absurd cc) (λ _. λ e. subst (AllByRecursion CanAskOrder) (same_orders _ _ e) (lines_ask (lines_of input)))
    is

kind_orders : (kind : WordsKind) (input : List ℕ) (orders : List Order) → CanAskWords kind → asked_of kind input ≡ Orders orders → AllByRecursion CanAskOrder orders
kind_orders words_kind.Script input orders asks is = script_asks input orders is
kind_orders words_kind.NotUnderstood input orders asks is = absurd cc
kind_orders (words_kind.Is command) input orders asks is = subst (AllByRecursion CanAskOrder) (same_orders _ _ is) (asks, tt)

pub runs_keep_reading : KeepingLaws → RunsKeepReading
runs_keep_reading laws files t left words input added ends (OneLine one is) go = subst CanGoOn (sym is) go
runs_keep_reading laws files t left words input added ends (Commands orders are reads effects does adds is status) go =
    subst CanGoOn (sym is) (orders_go_on laws files t orders effects (kind_orders (kind_of_words words) input orders (can_ask_words words (kind_of_words words) refl) are) does go)
