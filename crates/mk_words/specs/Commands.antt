-- The commands, as lines of a script and the words of the command line spell them.
--     IsCommandOf words command     the words spell this command, as a row of the table of commands
--                                   says
--     command_in words              the command that the words are, computed
--     store_path, behind_store      the path of the store in the words of the command line, and the
--                                   words behind it
--     kind_of_line, kind_of_words   what a line is, and what the words of the command line are
--     CanAsk command                what a session can be asked
--     CommandsAreRead, OneReading, WordsAreRead   laws
-- A line's words are its longest runs of bytes other than blanks. A byte of a longer character is
-- no blank, so a line is UTF-8 exactly where each of its words is.
use Rattle.std.specs.Prelude.{◌≡◌, ◌↔◌, ℕ, ◌≤◌, ◌&&◌, nat_le, List, [], ◌∷◌, Option, Some, None, IfSome, codes, bytes_eq, length, ◌==◌, if◌then◌else◌, ⊤}
use Rattle.std.specs.List.{slice_split}
use Rattle.std.specs.Str.{is_utf8}
use Rattle.mk_text.specs.Columns.{are_blank}
use Rattle.mk_text.specs.Fields.{digits_number}
use Rattle.mk_text.specs.Lines.{words_of}
use Rattle.mk_text.specs.Options.{◌>>=◌, when}
use Rattle.mk_words.specs.declared.command.Command.{Command}
use Rattle.mk_words.specs.declared.command.Command.TheVariants as variant
use Rattle.mk_words.specs.declared.command.LineKind.{LineKind}
use Rattle.mk_words.specs.declared.command.LineKind.TheVariants as line_kind
use Rattle.mk_words.specs.declared.command.WordsKind.{WordsKind}
use Rattle.mk_words.specs.declared.command.WordsKind.TheVariants as words_kind
use Rattle.mk_kept.specs.Names.{is_name, IsHeldNumber, IsName}
use Rattle.mk_kept.specs.Saved.{longest_place}
use Rattle.mk_kept.specs.Asked.{IsBudget, IsLimit, IsStructureLimit}

-- ---- single words

-- a file's name is any UTF-8 text
abbrev pub file_in : List ℕ → Option (List ℕ)
file_in word = if is_utf8 word then Some word else None

-- the word as a name, where it is one
abbrev pub name_in : List ℕ → Option (List ℕ)
name_in word = if is_name word then Some word else None

-- a number that lies from the least to the most
abbrev pub within : ℕ → ℕ → Option ℕ → Option ℕ
within least most None = None
within least most (Some n) = if nat_le least n && nat_le n most then Some n else None

-- a number is one to nine digits, with leading zeros or without, and lies from the least to the
-- most
abbrev pub number_in : ℕ → ℕ → List ℕ → Option ℕ
number_in least most word = within least most (digits_number word)

-- the number of a record or of a saved search
abbrev pub held_number : List ℕ → Option ℕ
held_number word = number_in 1 999999999 word

-- how many hits are listed, or molecules drilled
abbrev pub limit_in : List ℕ → Option ℕ
limit_in word = number_in 1 10000 word

-- how many turns a search may make
abbrev pub budget_in : List ℕ → Option ℕ
budget_in word = number_in 2048 999999999 word

-- how many structures are written
abbrev pub structures_in : List ℕ → Option ℕ
structures_in word = number_in 1 1000 word

-- the numbers of one to nine digits that these words are
abbrev pub numbers_in : List (List ℕ) → Option (List ℕ)
numbers_in [] = Some []
numbers_in (word ∷ words) = digits_number word >>= λ n. numbers_in words >>= λ numbers. Some (n ∷ numbers)

-- a place is 1 to 514 numbers, with a comma between each two, byte 44
abbrev pub place_in : List ℕ → Option (List ℕ)
place_in word = (let parts = slice_split (λ b. b == 44) word in when (nat_le (length parts) longest_place) (numbers_in parts))

-- ---- the table of commands

-- The words spell the command. One case for each: its word in small letters, and exactly so many
-- words more. `search` and `resume` have a second case, with a budget as one word more, and `enum`
-- has one with a place.
pub data IsCommandOf (words : List (List ℕ)) (command : Command) : Type 0 where
  MatchRow : (a b query molecules : List ℕ) → words ≡ codes "match" ∷ a ∷ b ∷ [] → file_in a ≡ Some query → file_in b ≡ Some molecules
      → command ≡ variant.Match query molecules → IsCommandOf words command
  LoadRow : (a file : List ℕ) → words ≡ codes "load" ∷ a ∷ [] → file_in a ≡ Some file → command ≡ variant.Load file → IsCommandOf words command
  ReplaceRow : (a b : List ℕ) (number : ℕ) (file : List ℕ) → words ≡ codes "replace" ∷ a ∷ b ∷ [] → held_number a ≡ Some number → file_in b ≡ Some file
      → command ≡ variant.Replace number file → IsCommandOf words command
  RemoveRow : (a : List ℕ) (number : ℕ) → words ≡ codes "remove" ∷ a ∷ [] → held_number a ≡ Some number → command ≡ variant.Remove number → IsCommandOf words command
  QueryRow : (a b name file : List ℕ) → words ≡ codes "query" ∷ a ∷ b ∷ [] → name_in a ≡ Some name → file_in b ≡ Some file
      → command ≡ variant.Query name file → IsCommandOf words command
  ForgetRow : (a name : List ℕ) → words ≡ codes "forget" ∷ a ∷ [] → name_in a ≡ Some name → command ≡ variant.Forget name → IsCommandOf words command
  SearchRow : (a b name : List ℕ) (limit : ℕ) → words ≡ codes "search" ∷ a ∷ b ∷ [] → name_in a ≡ Some name → limit_in b ≡ Some limit
      → command ≡ variant.Search name limit None → IsCommandOf words command
  SearchWithinRow : (a b d name : List ℕ) (limit budget : ℕ) → words ≡ codes "search" ∷ a ∷ b ∷ d ∷ [] → name_in a ≡ Some name → limit_in b ≡ Some limit
      → budget_in d ≡ Some budget → command ≡ variant.Search name limit (Some budget) → IsCommandOf words command
  ResumeRow : (a b : List ℕ) (cursor limit : ℕ) → words ≡ codes "resume" ∷ a ∷ b ∷ [] → held_number a ≡ Some cursor → limit_in b ≡ Some limit
      → command ≡ variant.Resume cursor limit None → IsCommandOf words command
  ResumeWithinRow : (a b d : List ℕ) (cursor limit budget : ℕ) → words ≡ codes "resume" ∷ a ∷ b ∷ d ∷ [] → held_number a ≡ Some cursor → limit_in b ≡ Some limit
      → budget_in d ≡ Some budget → command ≡ variant.Resume cursor limit (Some budget) → IsCommandOf words command
  ShowRow : (a : List ℕ) (number : ℕ) → words ≡ codes "show" ∷ a ∷ [] → held_number a ≡ Some number → command ≡ variant.Show number → IsCommandOf words command
  TableRow : (a name : List ℕ) → words ≡ codes "table" ∷ a ∷ [] → name_in a ≡ Some name → command ≡ variant.Table name → IsCommandOf words command
  EnumRow : (a b name : List ℕ) (limit : ℕ) → words ≡ codes "enum" ∷ a ∷ b ∷ [] → name_in a ≡ Some name → structures_in b ≡ Some limit
      → command ≡ variant.Enum name limit [] → IsCommandOf words command
  EnumFromRow : (a b d name : List ℕ) (limit : ℕ) (from : List ℕ) → words ≡ codes "enum" ∷ a ∷ b ∷ d ∷ [] → name_in a ≡ Some name → structures_in b ≡ Some limit
      → place_in d ≡ Some from → command ≡ variant.Enum name limit from → IsCommandOf words command
  ListRow : words ≡ codes "list" ∷ [] → command ≡ variant.List → IsCommandOf words command
  DrillRow : (a b : List ℕ) (start count : ℕ) → words ≡ codes "drill" ∷ a ∷ b ∷ [] → number_in 0 999999999 a ≡ Some start → limit_in b ≡ Some count
      → command ≡ variant.Drill start count → IsCommandOf words command

-- ---- the same, computed

-- the command with one word more, where that is of its kind
abbrev pub with_one : {A : Type 0} → (A → Command) → Option A → Option Command
with_one make None = None
with_one make (Some a) = Some (make a)

-- the command with two words more, where each is of its kind
abbrev pub with_two : {A B : Type 0} → (A → B → Command) → Option A → Option B → Option Command
with_two make None b = None
with_two make (Some a) None = None
with_two make (Some a) (Some b) = Some (make a b)

-- the command with three words more, where each is of its kind
abbrev pub with_three : {A B C : Type 0} → (A → B → C → Command) → Option A → Option B → Option C → Option Command
with_three make None b c = None
with_three make (Some a) None c = None
with_three make (Some a) (Some b) None = None
with_three make (Some a) (Some b) (Some c) = Some (make a b c)

-- `search` and `resume` without a budget, and with one
abbrev pub search_all : List ℕ → ℕ → Command
search_all name limit = variant.Search name limit None

abbrev pub search_within : List ℕ → ℕ → ℕ → Command
search_within name limit budget = variant.Search name limit (Some budget)

abbrev pub resume_all : ℕ → ℕ → Command
resume_all cursor limit = variant.Resume cursor limit None

abbrev pub resume_within : ℕ → ℕ → ℕ → Command
resume_within cursor limit budget = variant.Resume cursor limit (Some budget)

-- `enum` from the first code on
abbrev pub enum_all : List ℕ → ℕ → Command
enum_all name limit = variant.Enum name limit []

-- the command that is one word
abbrev pub row_of_one : List ℕ → Option Command
row_of_one word = if bytes_eq word (codes "list") then Some variant.List else None

-- the command that is two words
abbrev pub row_of_two : List ℕ → List ℕ → Option Command
row_of_two word a =
    if bytes_eq word (codes "load") then with_one variant.Load (file_in a)
    else (if bytes_eq word (codes "remove") then with_one variant.Remove (held_number a)
    else (if bytes_eq word (codes "forget") then with_one variant.Forget (name_in a)
    else (if bytes_eq word (codes "show") then with_one variant.Show (held_number a)
    else (if bytes_eq word (codes "table") then with_one variant.Table (name_in a) else None))))

-- the command that is three words
abbrev pub row_of_three : List ℕ → List ℕ → List ℕ → Option Command
row_of_three word a b =
    if bytes_eq word (codes "match") then with_two variant.Match (file_in a) (file_in b)
    else (if bytes_eq word (codes "replace") then with_two variant.Replace (held_number a) (file_in b)
    else (if bytes_eq word (codes "query") then with_two variant.Query (name_in a) (file_in b)
    else (if bytes_eq word (codes "search") then with_two search_all (name_in a) (limit_in b)
    else (if bytes_eq word (codes "resume") then with_two resume_all (held_number a) (limit_in b)
    else (if bytes_eq word (codes "drill") then with_two variant.Drill (number_in 0 999999999 a) (limit_in b)
    else (if bytes_eq word (codes "enum") then with_two enum_all (name_in a) (structures_in b) else None))))))

-- the command that is four words
abbrev pub row_of_four : List ℕ → List ℕ → List ℕ → List ℕ → Option Command
row_of_four word a b d =
    if bytes_eq word (codes "search") then with_three search_within (name_in a) (limit_in b) (budget_in d)
    else (if bytes_eq word (codes "resume") then with_three resume_within (held_number a) (limit_in b) (budget_in d)
    else (if bytes_eq word (codes "enum") then with_three variant.Enum (name_in a) (structures_in b) (place_in d) else None))

-- the command that the words are, where they are one
abbrev pub command_in : List (List ℕ) → Option Command
command_in [] = None
command_in (a ∷ []) = row_of_one a
command_in (a ∷ b ∷ []) = row_of_two a b
command_in (a ∷ b ∷ c ∷ []) = row_of_three a b c
command_in (a ∷ b ∷ c ∷ d ∷ []) = row_of_four a b c d
command_in (a ∷ b ∷ c ∷ d ∷ e ∷ words) = None

-- ---- lines and words

-- what words of a line are, by the command that they are, if any
abbrev pub kind_of_order : Option Command → LineKind
kind_of_order None = line_kind.NoCommand
kind_of_order (Some command) = line_kind.Is command

-- a line is blank, or what its words are
abbrev pub kind_of_line : List ℕ → LineKind
kind_of_line line = if are_blank line then line_kind.Blank else kind_of_order (command_in (words_of line))

-- the word in front of the path of the store
abbrev pub store_flag : List ℕ
store_flag = codes "--store"

-- the path of the store is the second word, where the first says that it is
abbrev pub store_path : List (List ℕ) → Option (List ℕ)
store_path [] = None
store_path (flag ∷ []) = None
store_path (flag ∷ path ∷ words) = if bytes_eq flag store_flag then Some path else None

-- the words behind these two, or all words where there is no store
abbrev pub behind_store : List (List ℕ) → List (List ℕ)
behind_store [] = []
behind_store (flag ∷ []) = flag ∷ []
behind_store (flag ∷ path ∷ words) = if bytes_eq flag store_flag then words else flag ∷ path ∷ words

-- what words of the command line are, by the command that they are, if any
abbrev pub kind_of_words_order : Option Command → WordsKind
kind_of_words_order None = words_kind.NotUnderstood
kind_of_words_order (Some command) = words_kind.Is command

-- no words ask for the script
abbrev pub kind_behind_store : List (List ℕ) → WordsKind
kind_behind_store [] = words_kind.Script
kind_behind_store (word ∷ words) = kind_of_words_order (command_in (word ∷ words))

-- A store may stand in front. What stands behind it is the script or a command, or it isn't
-- understood.
abbrev pub kind_of_words : List (List ℕ) → WordsKind
kind_of_words words = kind_behind_store (behind_store words)

-- the words are a store and these
abbrev pub IsStoreWith : List (List ℕ) → List ℕ → List (List ℕ) → Type 0
IsStoreWith words path others = words ≡ store_flag ∷ path ∷ others

-- there are no words, or a store alone
pub data AskForScript (words : List (List ℕ)) : Type 0 where
  NoWords : words ≡ [] → AskForScript words
  StoreAlone : (path : List ℕ) → IsStoreWith words path [] → AskForScript words

-- the words are the command, or a store and the command
pub data AskFor (words : List (List ℕ)) (command : Command) : Type 0 where
  CommandAlone : IsCommandOf words command → AskFor words command
  CommandBehindStore : (path : List ℕ) (others : List (List ℕ)) → IsStoreWith words path others → IsCommandOf others command → AskFor words command

-- ---- what a session can be asked

-- the names of the command are names, and its numbers lie in their ranges
abbrev pub CanAsk : Command → Type 0
CanAsk (variant.Match query molecules) = ⊤
CanAsk (variant.Load file) = ⊤
CanAsk (variant.Replace number file) = IsHeldNumber number
CanAsk (variant.Remove number) = IsHeldNumber number
CanAsk (variant.Query name file) = IsName name
CanAsk (variant.Forget name) = IsName name
CanAsk (variant.Search name limit budget) = IsName name × IsLimit limit × IfSome budget IsBudget
CanAsk (variant.Resume cursor limit budget) = IsHeldNumber cursor × IsLimit limit × IfSome budget IsBudget
CanAsk (variant.Show number) = IsHeldNumber number
CanAsk variant.List = ⊤
CanAsk (variant.Table name) = IsName name
CanAsk (variant.Enum name limit from) = IsName name × IsStructureLimit limit
CanAsk (variant.Drill start count) = (start ≤ 999999999) × IsLimit count

-- a line that is a command is one that a session can be asked
abbrev pub CanAskLine : LineKind → Type 0
CanAskLine line_kind.Blank = ⊤
CanAskLine line_kind.NoCommand = ⊤
CanAskLine (line_kind.Is command) = CanAsk command

-- words that are a command are one that a session can be asked
abbrev pub CanAskWords : WordsKind → Type 0
CanAskWords words_kind.Script = ⊤
CanAskWords words_kind.NotUnderstood = ⊤
CanAskWords (words_kind.Is command) = CanAsk command

-- ---- laws

-- the computation gives exactly the command that the words are
abbrev pub CommandsAreRead : Type 0
CommandsAreRead = (words : List (List ℕ)) (command : Command) → (command_in words ≡ Some command) ↔ IsCommandOf words command

-- words are at most one command
abbrev pub OneReading : Type 0
OneReading = (words : List (List ℕ)) (a b : Command) → IsCommandOf words a → IsCommandOf words b → a ≡ b

-- there is a path exactly where the words are a store and others
abbrev pub StoreIsRead : Type 0
StoreIsRead = (words : List (List ℕ)) (path : List ℕ) → (store_path words ≡ Some path) ↔ ((others : List (List ℕ)) × IsStoreWith words path others)

-- the computation says that words ask for the script, or for a command, exactly where they do
abbrev pub WordsAreRead : Type 0
WordsAreRead = (words : List (List ℕ)) → ((kind_of_words words ≡ words_kind.Script) ↔ AskForScript words)
    × ((command : Command) → (kind_of_words words ≡ words_kind.Is command) ↔ AskFor words command)
