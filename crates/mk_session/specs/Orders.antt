-- What the words of the command line and the input ask for.
--     Order                     a command, or what is no command and is refused
--     orders_of lines           what the lines ask for, in order; blank lines ask for nothing
--     asked words input         what the words and the input ask for
--     HasNoBudget order         no budget is given with the order
use Rattle.std.specs.Prelude.{ℕ, List, [], ◌∷◌, length, ◌≡◌, Option, Some, None, nat_lt, if◌then◌else◌, ⊤}
use Rattle.std.specs.List.{flat_map}
use Rattle.mk_text.specs.Lines.{lines_of}
use Rattle.mk_words.specs.declared.command.Command.{Command}
use Rattle.mk_words.specs.declared.command.Command.TheVariants as variant
use Rattle.mk_words.specs.declared.command.LineKind.{LineKind}
use Rattle.mk_words.specs.declared.command.LineKind.TheVariants as line_kind
use Rattle.mk_words.specs.declared.command.WordsKind.{WordsKind}
use Rattle.mk_words.specs.declared.command.WordsKind.TheVariants as words_kind
use Rattle.mk_words.specs.Commands.{kind_of_line, kind_of_words}

-- what a line that isn't blank asks for: a command, or None, which is refused
abbrev pub Order : Type 0
Order = Option Command

-- no budget is given with the order
abbrev pub HasNoBudget : Order → Type 0
HasNoBudget (Some (variant.Search name limit budget)) = budget ≡ None
HasNoBudget (Some (variant.Resume cursor limit budget)) = budget ≡ None
HasNoBudget _ = ⊤

-- what a line of this kind asks for
abbrev pub orders_of_kind : LineKind → List Order
orders_of_kind line_kind.Blank = []
orders_of_kind line_kind.NoCommand = None ∷ []
orders_of_kind (line_kind.Is command) = Some command ∷ []

-- what a line asks for
abbrev pub orders_of_line : List ℕ → List Order
orders_of_line line = orders_of_kind (kind_of_line line)

-- what the lines ask for, in order; blank lines ask for nothing
abbrev pub orders_of : List (List ℕ) → List Order
orders_of lines = flat_map orders_of_line lines

-- ---- a whole run

-- what a run is asked for
pub data Asked : Type 0 where
  NoCommand : Asked  -- the words aren't understood
  TooMuch : Asked  -- the script is over its limit
  Orders : List Order → Asked  -- these, in order

-- a script has at most so many bytes
abbrev pub script_bytes : ℕ
script_bytes = 16777216

-- the input is read by so many bytes at once
abbrev pub read_bytes : ℕ
read_bytes = 4096

-- what the input asks for, where it is the script
abbrev pub asked_of_script : List ℕ → Asked
asked_of_script input = if nat_lt script_bytes (length input) then TooMuch else Orders (orders_of (lines_of input))

-- what words of this kind and the input ask for
abbrev pub asked_of : WordsKind → List ℕ → Asked
asked_of words_kind.Script input = asked_of_script input
asked_of words_kind.NotUnderstood input = NoCommand
asked_of (words_kind.Is command) input = Orders (Some command ∷ [])

-- what the words and the input ask for
abbrev pub asked : List (List ℕ) → List ℕ → Asked
asked words input = asked_of (kind_of_words words) input

-- the orders that are asked for
abbrev pub orders_asked : Asked → List Order
orders_asked NoCommand = []
orders_asked TooMuch = []
orders_asked (Orders orders) = orders
