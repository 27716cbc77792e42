-- The store in the words of the command line.
--     store_is_read      there is a path exactly where the words are a store and others
--     words_are_read     words ask for what they say
use Rattle.std.proofs.Common.{◌≡◌, ℕ, Bool, true, false, List, [], ◌∷◌, Option, Some, None, refl, sym, ap, subst, ◌∙◌}
use Rattle.std.specs.Prelude.{bytes_eq}
use Rattle.std.proofs.lemmas.Slice.Eq.{bytes_eq-Decides}
use Rattle.mk_words.specs.declared.command.Command.{Command}
use Rattle.mk_words.specs.declared.command.WordsKind.TheVariants as words_kind
use Rattle.mk_words.specs.Commands.{AskFor, AskForScript, IsCommandOf, IsStoreWith, StoreIsRead, WordsAreRead, behind_store, command_in, kind_behind_store, kind_of_words, kind_of_words_order, store_flag, store_path, CommandAlone, CommandBehindStore, NoWords, StoreAlone, MatchRow, LoadRow, ReplaceRow, RemoveRow, QueryRow, ForgetRow, SearchRow, SearchWithinRow, ResumeRow, ResumeWithinRow, ShowRow, TableRow, EnumRow, EnumFromRow, ListRow, DrillRow}
use Rattle.mk_words.proofs.CommandLemmas.{commands_are_read}

-- a test of the first word
by_flag : {G : Type 0} (flag : List ℕ) → (bytes_eq flag store_flag ≡ true → flag ≡ store_flag → G) → (bytes_eq flag store_flag ≡ false → G) → G
by_flag {G} flag here there = by_test (bytes_eq flag store_flag) refl
  where
    by_test : (b : Bool) → bytes_eq flag store_flag ≡ b → G
    by_test true e = here e ((bytes_eq-Decides flag store_flag).0 e)
    by_test false e = there e

-- ---- the path

path_is : (words : List (List ℕ)) (path : List ℕ) → store_path words ≡ Some path → (others : List (List ℕ)) × IsStoreWith words path others
path_is [] path is = absurd cc
path_is (flag ∷ []) path is = absurd cc
path_is (flag ∷ other ∷ words) path is = by_flag flag
    (λ e same. let h : Some other ≡ Some path = rw e at is in let there : other ≡ path = cc in (words, cc))
    (λ e. let h : None ≡ Some path = rw e at is in absurd cc)

pub store_is_read : StoreIsRead
store_is_read words path = (path_is words path, λ h. ap store_path h.1)

-- ---- the kinds

no_order : {G : Type 0} (o : Option Command) → kind_of_words_order o ≡ words_kind.Script → G
no_order None is = absurd cc
no_order (Some command) is = absurd cc

an_order : (o : Option Command) (command : Command) → kind_of_words_order o ≡ words_kind.Is command → o ≡ Some command
an_order None command is = absurd cc
an_order (Some other) command is = cc

no_script : {G : Type 0} (word : List ℕ) (words : List (List ℕ)) → kind_behind_store (word ∷ words) ≡ words_kind.Script → G
no_script word words is = no_order (command_in (word ∷ words)) is

behind_script : (words : List (List ℕ)) → kind_behind_store words ≡ words_kind.Script → words ≡ []
behind_script [] is = refl
behind_script (word ∷ words) is = no_script word words is

behind_command : (words : List (List ℕ)) (command : Command) → kind_behind_store words ≡ words_kind.Is command → IsCommandOf words command
behind_command [] command is = absurd cc
behind_command (word ∷ words) command is = (commands_are_read (word ∷ words) command).0 (an_order (command_in (word ∷ words)) command is)

is_behind : (words : List (List ℕ)) (command : Command) → command_in words ≡ Some command → kind_behind_store words ≡ words_kind.Is command
is_behind [] command is = absurd cc
is_behind (word ∷ words) command is = ap kind_of_words_order is

-- the words, as they have to be
as_store : (flag path : List ℕ) (words others : List (List ℕ)) → flag ≡ store_flag → words ≡ others → IsStoreWith (flag ∷ path ∷ words) path others
as_store flag path words others same rest = ap (λ (f : List ℕ). f ∷ path ∷ words) same ∙ ap (λ (ws : List (List ℕ)). store_flag ∷ path ∷ ws) rest

asks_for_script : (words : List (List ℕ)) → kind_of_words words ≡ words_kind.Script → AskForScript words
asks_for_script [] is = NoWords refl
asks_for_script (flag ∷ []) is = no_script flag [] is
asks_for_script (flag ∷ path ∷ words) is = by_flag flag
    (λ e same. let h : kind_behind_store words ≡ words_kind.Script = rw e at is in StoreAlone path (as_store flag path words [] same (behind_script words h)))
    (λ e. let h : kind_behind_store (flag ∷ path ∷ words) ≡ words_kind.Script = rw e at is in no_script flag (path ∷ words) h)

is_script : (words : List (List ℕ)) → AskForScript words → kind_of_words words ≡ words_kind.Script
is_script words (NoWords is) = ap kind_of_words is
is_script words (StoreAlone path is) = ap kind_of_words is

asks_for : (words : List (List ℕ)) (command : Command) → kind_of_words words ≡ words_kind.Is command → AskFor words command
asks_for [] command is = absurd cc
asks_for (flag ∷ []) command is = CommandAlone (behind_command (flag ∷ []) command is)
asks_for (flag ∷ path ∷ words) command is = by_flag flag
    (λ e same. let h : kind_behind_store words ≡ words_kind.Is command = rw e at is in CommandBehindStore path words (as_store flag path words words same refl) (behind_command words command h))
    (λ e. let h : kind_behind_store (flag ∷ path ∷ words) ≡ words_kind.Is command = rw e at is in CommandAlone (behind_command (flag ∷ path ∷ words) command h))

-- a command begins with another word
abbrev HasNoStore : List (List ℕ) → Type 0
HasNoStore words = behind_store words ≡ words

row_has_no_store : (words : List (List ℕ)) (command : Command) → IsCommandOf words command → HasNoStore words
row_has_no_store words command (MatchRow a b query molecules same is is' made) = subst HasNoStore (sym same) refl
row_has_no_store words command (LoadRow a file same is made) = subst HasNoStore (sym same) refl
row_has_no_store words command (ReplaceRow a b number file same is is' made) = subst HasNoStore (sym same) refl
row_has_no_store words command (RemoveRow a number same is made) = subst HasNoStore (sym same) refl
row_has_no_store words command (QueryRow a b name file same is is' made) = subst HasNoStore (sym same) refl
row_has_no_store words command (ForgetRow a name same is made) = subst HasNoStore (sym same) refl
row_has_no_store words command (SearchRow a b name limit same is is' made) = subst HasNoStore (sym same) refl
row_has_no_store words command (ResumeRow a b cursor limit same is is' made) = subst HasNoStore (sym same) refl
row_has_no_store words command (SearchWithinRow a b d name limit budget same is is' is'' made) = subst HasNoStore (sym same) refl
row_has_no_store words command (ResumeWithinRow a b d cursor limit budget same is is' is'' made) = subst HasNoStore (sym same) refl
row_has_no_store words command (TableRow a name same is made) = subst HasNoStore (sym same) refl
row_has_no_store words command (EnumRow a b name limit same is is' made) = subst HasNoStore (sym same) refl
row_has_no_store words command (EnumFromRow a b d name limit from same is is' is'' made) = subst HasNoStore (sym same) refl
row_has_no_store words command (ShowRow a number same is made) = subst HasNoStore (sym same) refl
row_has_no_store words command (ListRow same made) = subst HasNoStore (sym same) refl
row_has_no_store words command (DrillRow a b start count same is is' made) = subst HasNoStore (sym same) refl

is_asked : (words : List (List ℕ)) (command : Command) → AskFor words command → kind_of_words words ≡ words_kind.Is command
is_asked words command (CommandAlone is) =
    ap kind_behind_store (row_has_no_store words command is) ∙ is_behind words command ((commands_are_read words command).1 is)
is_asked words command (CommandBehindStore path others same is) = ap kind_of_words same ∙ is_behind others command ((commands_are_read others command).1 is)

pub words_are_read : WordsAreRead
words_are_read words = ((asks_for_script words, is_script words), λ command. (asks_for words command, is_asked words command))
