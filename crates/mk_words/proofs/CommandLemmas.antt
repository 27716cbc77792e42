-- The rows of the table of commands, and what computes them.
--     commands_are_read     the computation gives exactly the command that the words are
--     one_reading           so words are at most one command
--     asked_in_range        a command that is read lies in its ranges
use Rattle.std.proofs.Common.{◌≡◌, ℕ, ◌<◌, ◌≤◌, Bool, true, false, ◌&&◌, List, [], ◌∷◌, length, Option, Some, None, if◌then◌else◌, refl, sym, ap, subst, ◌∙◌, arith}
use Rattle.std.specs.Prelude.{bytes_eq, codes, nat_le}
use Rattle.std.proofs.lemmas.Bool.Decides.{nat_tests}
use Rattle.std.proofs.lemmas.Slice.Eq.{bytes_eq-Decides}
use Rattle.mk_text.specs.Columns.{are_blank}
use Rattle.mk_text.specs.Fields.{digits_number}
use Rattle.mk_text.specs.Lines.{words_of}
use Rattle.mk_text.proofs.ForCallers.{both}
use Rattle.mk_words.specs.declared.command.Command.{Command}
use Rattle.mk_words.specs.declared.command.Command.TheVariants as variant
use Rattle.mk_words.specs.declared.command.LineKind.{LineKind}
use Rattle.mk_words.specs.declared.command.LineKind.TheVariants as line_kind
use Rattle.mk_words.specs.declared.command.WordsKind.{WordsKind}
use Rattle.mk_words.specs.declared.command.WordsKind.TheVariants as words_kind
use Rattle.mk_words.specs.Commands.{CanAsk, CanAskLine, CanAskWords, CommandsAreRead, IsCommandOf, OneReading, behind_store, command_in, file_in, held_number, kind_behind_store, kind_of_line, kind_of_order, kind_of_words, kind_of_words_order, limit_in, name_in, number_in, row_of_one, row_of_three, row_of_two, with_one, with_two, within, row_of_four, search_all, search_within, resume_all, resume_within, with_three, budget_in, enum_all, structures_in, place_in, MatchRow, LoadRow, ReplaceRow, RemoveRow, QueryRow, ForgetRow, SearchRow, SearchWithinRow, ResumeRow, ResumeWithinRow, ShowRow, TableRow, EnumRow, EnumFromRow, ListRow, DrillRow}
use Rattle.mk_kept.specs.Names.{IsName, is_name}

-- ---- from a row to what computes it

of_words : (words others : List (List ℕ)) (command : Command) → words ≡ others → command_in others ≡ Some command → command_in words ≡ Some command
of_words words others command same is = subst (λ (ws : List (List ℕ)). command_in ws ≡ Some command) (sym same) is

one_is : {A : Type 0} (make : A → Command) (o : Option A) (a : A) (command : Command) → o ≡ Some a → command ≡ make a → with_one make o ≡ Some command
one_is make o a command is same = ap (with_one make) is ∙ ap Some (sym same)

two_is : {A B : Type 0} (make : A → B → Command) (o : Option A) (p : Option B) (a : A) (b : B) (command : Command) → o ≡ Some a → p ≡ Some b → command ≡ make a b → with_two make o p ≡ Some command
two_is make o p a b command is is' same = ap (λ x. with_two make x p) is ∙ ap (λ y. with_two make (Some a) y) is' ∙ ap Some (sym same)

three_is : {A B C : Type 0} (make : A → B → C → Command) (o : Option A) (p : Option B) (q : Option C) (a : A) (b : B) (c : C) (command : Command) → o ≡ Some a → p ≡ Some b → q ≡ Some c
    → command ≡ make a b c → with_three make o p q ≡ Some command
three_is make o p q a b c command is is' is'' same =
    ap (λ x. with_three make x p q) is ∙ ap (λ y. with_three make (Some a) y q) is' ∙ ap (λ z. with_three make (Some a) (Some b) z) is'' ∙ ap Some (sym same)

row_is : (words : List (List ℕ)) (command : Command) → IsCommandOf words command → command_in words ≡ Some command
row_is words command (MatchRow a b query molecules same is is' made) = of_words words _ command same (two_is variant.Match (file_in a) (file_in b) query molecules command is is' made)
row_is words command (LoadRow a file same is made) = of_words words _ command same (one_is variant.Load (file_in a) file command is made)
row_is words command (ReplaceRow a b number file same is is' made) = of_words words _ command same (two_is variant.Replace (held_number a) (file_in b) number file command is is' made)
row_is words command (RemoveRow a number same is made) = of_words words _ command same (one_is variant.Remove (held_number a) number command is made)
row_is words command (QueryRow a b name file same is is' made) = of_words words _ command same (two_is variant.Query (name_in a) (file_in b) name file command is is' made)
row_is words command (ForgetRow a name same is made) = of_words words _ command same (one_is variant.Forget (name_in a) name command is made)
row_is words command (SearchRow a b name limit same is is' made) = of_words words _ command same (two_is search_all (name_in a) (limit_in b) name limit command is is' made)
row_is words command (SearchWithinRow a b d name limit budget same is is' is'' made) =
    of_words words _ command same (three_is search_within (name_in a) (limit_in b) (budget_in d) name limit budget command is is' is'' made)
row_is words command (ResumeRow a b cursor limit same is is' made) = of_words words _ command same (two_is resume_all (held_number a) (limit_in b) cursor limit command is is' made)
row_is words command (ResumeWithinRow a b d cursor limit budget same is is' is'' made) =
    of_words words _ command same (three_is resume_within (held_number a) (limit_in b) (budget_in d) cursor limit budget command is is' is'' made)
row_is words command (ShowRow a number same is made) = of_words words _ command same (one_is variant.Show (held_number a) number command is made)
row_is words command (TableRow a name same is made) = of_words words _ command same (one_is variant.Table (name_in a) name command is made)
row_is words command (EnumRow a b name limit same is is' made) = of_words words _ command same (two_is enum_all (name_in a) (structures_in b) name limit command is is' made)
row_is words command (EnumFromRow a b d name limit from same is is' is'' made) =
    of_words words _ command same (three_is variant.Enum (name_in a) (structures_in b) (place_in d) name limit from command is is' is'' made)
row_is words command (ListRow same made) = of_words words _ command same (ap Some (sym made))
row_is words command (DrillRow a b start count same is is' made) = of_words words _ command same (two_is variant.Drill (number_in 0 999999999 a) (limit_in b) start count command is is' made)

-- ---- and back

record HasOne {A : Type 0} (make : A → Command) (o : Option A) (command : Command) : Type 0 where
  a : A
  is : o ≡ Some a
  made : command ≡ make a

has_one : {A : Type 0} (make : A → Command) (o : Option A) (command : Command) → with_one make o ≡ Some command → HasOne make o command
has_one make None command is = absurd cc
has_one make (Some a) command is = record { a = a; is = refl; made = cc }

record HasTwo {A B : Type 0} (make : A → B → Command) (o : Option A) (p : Option B) (command : Command) : Type 0 where
  a : A
  b : B
  is : o ≡ Some a
  is' : p ≡ Some b
  made : command ≡ make a b

has_two : {A B : Type 0} (make : A → B → Command) (o : Option A) (p : Option B) (command : Command) → with_two make o p ≡ Some command → HasTwo make o p command
has_two make None p command is = absurd cc
has_two make (Some a) None command is = absurd cc
has_two make (Some a) (Some b) command is = record { a = a; b = b; is = refl; is' = refl; made = cc }

record HasThree {A B C : Type 0} (make : A → B → C → Command) (o : Option A) (p : Option B) (q : Option C) (command : Command) : Type 0 where
  a : A
  b : B
  c : C
  is : o ≡ Some a
  is' : p ≡ Some b
  is'' : q ≡ Some c
  made : command ≡ make a b c

has_three : {A B C : Type 0} (make : A → B → C → Command) (o : Option A) (p : Option B) (q : Option C) (command : Command) → with_three make o p q ≡ Some command → HasThree make o p q command
has_three make None p q command is = absurd cc
has_three make (Some a) None q command is = absurd cc
has_three make (Some a) (Some b) None command is = absurd cc
has_three make (Some a) (Some b) (Some c) command is = record { a = a; b = b; c = c; is = refl; is' = refl; is'' = refl; made = cc }

-- a test of the command word
by_word : {G : Type 0} (word keyword : List ℕ) (x y : Option Command) (command : Command) → (if bytes_eq word keyword then x else y) ≡ Some command
    → (word ≡ keyword → x ≡ Some command → G) → (y ≡ Some command → G) → G
by_word {G} word keyword x y command is here there = by_test (bytes_eq word keyword) refl is
  where
    by_test : (b : Bool) → bytes_eq word keyword ≡ b → (if b then x else y) ≡ Some command → G
    by_test true e is = here ((bytes_eq-Decides word keyword).0 e) is
    by_test false e is = there is

abbrev spelt : List ℕ → List (List ℕ) → List (List ℕ)
spelt word others = word ∷ others

-- the command word, as it has to be
as_word : (word keyword : List ℕ) (others : List (List ℕ)) → word ≡ keyword → word ∷ others ≡ keyword ∷ others
as_word word keyword others same = ap (λ (w : List ℕ). w ∷ others) same

row_one : (word : List ℕ) (command : Command) → row_of_one word ≡ Some command → IsCommandOf (word ∷ []) command
row_one word command is =
    by_word word (codes "list") _ _ command is (λ same is. ListRow (as_word word _ [] same) cc) (λ is. absurd cc)

row_two : (word a : List ℕ) (command : Command) → row_of_two word a ≡ Some command → IsCommandOf (word ∷ a ∷ []) command
row_two word a command is =
    by_word word (codes "load") _ _ command is
    (λ same is. let h = has_one variant.Load (file_in a) command is in LoadRow a h.a (as_word word _ _ same) h.is h.made)
    (λ is. by_word word (codes "remove") _ _ command is
    (λ same is. let h = has_one variant.Remove (held_number a) command is in RemoveRow a h.a (as_word word _ _ same) h.is h.made)
    (λ is. by_word word (codes "forget") _ _ command is
    (λ same is. let h = has_one variant.Forget (name_in a) command is in ForgetRow a h.a (as_word word _ _ same) h.is h.made)
    (λ is. by_word word (codes "show") _ _ command is
    (λ same is. let h = has_one variant.Show (held_number a) command is in ShowRow a h.a (as_word word _ _ same) h.is h.made)
    (λ is. by_word word (codes "table") _ _ command is
    (λ same is. let h = has_one variant.Table (name_in a) command is in TableRow a h.a (as_word word _ _ same) h.is h.made)
    (λ is. absurd cc)))))

row_three : (word a b : List ℕ) (command : Command) → row_of_three word a b ≡ Some command → IsCommandOf (word ∷ a ∷ b ∷ []) command
row_three word a b command is =
    by_word word (codes "match") _ _ command is
    (λ same is. let h = has_two variant.Match (file_in a) (file_in b) command is in MatchRow a b h.a h.b (as_word word _ _ same) h.is h.is' h.made)
    (λ is. by_word word (codes "replace") _ _ command is
    (λ same is. let h = has_two variant.Replace (held_number a) (file_in b) command is in ReplaceRow a b h.a h.b (as_word word _ _ same) h.is h.is' h.made)
    (λ is. by_word word (codes "query") _ _ command is
    (λ same is. let h = has_two variant.Query (name_in a) (file_in b) command is in QueryRow a b h.a h.b (as_word word _ _ same) h.is h.is' h.made)
    (λ is. by_word word (codes "search") _ _ command is
    (λ same is. let h = has_two search_all (name_in a) (limit_in b) command is in SearchRow a b h.a h.b (as_word word _ _ same) h.is h.is' h.made)
    (λ is. by_word word (codes "resume") _ _ command is
    (λ same is. let h = has_two resume_all (held_number a) (limit_in b) command is in ResumeRow a b h.a h.b (as_word word _ _ same) h.is h.is' h.made)
    (λ is. by_word word (codes "drill") _ _ command is
    (λ same is. let h = has_two variant.Drill (number_in 0 999999999 a) (limit_in b) command is in DrillRow a b h.a h.b (as_word word _ _ same) h.is h.is' h.made)
    (λ is. by_word word (codes "enum") _ _ command is
    (λ same is. let h = has_two enum_all (name_in a) (structures_in b) command is in EnumRow a b h.a h.b (as_word word _ _ same) h.is h.is' h.made)
    (λ is. absurd cc)))))))

row_four : (word a b d : List ℕ) (command : Command) → row_of_four word a b d ≡ Some command → IsCommandOf (word ∷ a ∷ b ∷ d ∷ []) command
row_four word a b d command is =
    by_word word (codes "search") _ _ command is
    (λ same is.
    let h = has_three search_within (name_in a) (limit_in b) (budget_in d) command is in
    SearchWithinRow a b d h.a h.b h.c (as_word word _ _ same) h.is h.is' h.is'' h.made)
    (λ is. by_word word (codes "resume") _ _ command is
    (λ same is.
    let h = has_three resume_within (held_number a) (limit_in b) (budget_in d) command is in
    ResumeWithinRow a b d h.a h.b h.c (as_word word _ _ same) h.is h.is' h.is'' h.made)
    (λ is. by_word word (codes "enum") _ _ command is
    (λ same is.
    let h = has_three variant.Enum (name_in a) (structures_in b) (place_in d) command is in
    EnumFromRow a b d h.a h.b h.c (as_word word _ _ same) h.is h.is' h.is'' h.made)
    (λ is. absurd cc)))

is_row : (words : List (List ℕ)) (command : Command) → command_in words ≡ Some command → IsCommandOf words command
is_row [] command is = absurd cc
is_row (a ∷ []) command is = row_one a command is
is_row (a ∷ b ∷ []) command is = row_two a b command is
is_row (a ∷ b ∷ c ∷ []) command is = row_three a b c command is
is_row (a ∷ b ∷ c ∷ d ∷ []) command is = row_four a b c d command is
is_row (a ∷ b ∷ c ∷ d ∷ e ∷ words) command is = absurd cc

pub commands_are_read : CommandsAreRead
commands_are_read words command = (is_row words command, row_is words command)

pub one_reading : OneReading
one_reading words a b p q = let x = (commands_are_read words a).1 p in let y = (commands_are_read words b).1 q in cc

-- ---- words that are too many

pub many_words : (words : List (List ℕ)) → 4 < length words → command_in words ≡ None
many_words [] many = absurd (omega arith)
many_words (a ∷ []) many = absurd (omega arith)
many_words (a ∷ b ∷ []) many = absurd (omega arith)
many_words (a ∷ b ∷ c ∷ []) many = absurd (omega arith)
many_words (a ∷ b ∷ c ∷ d ∷ []) many = absurd (omega arith)
many_words (a ∷ b ∷ c ∷ d ∷ e ∷ words) many = refl

-- ---- ranges

within_range : (least most : ℕ) (o : Option ℕ) (n : ℕ) → within least most o ≡ Some n → (least ≤ n) × (n ≤ most)
within_range least most None n is = absurd cc
within_range least most (Some m) n is = by_test (nat_le least m && nat_le m most) refl is
  where
    by_test : (b : Bool) → (nat_le least m && nat_le m most) ≡ b → (if b then Some m else None) ≡ Some n → (least ≤ n) × (n ≤ most)
    by_test true e is = let same : m ≡ n = cc in let h = both (nat_le least m) (nat_le m most) e in
        (subst (λ (k : ℕ). least ≤ k) same (below least m h.0), subst (λ (k : ℕ). k ≤ most) same (below m most h.1))
      where
        below : (a b : ℕ) → nat_le a b ≡ true → a ≤ b
        below a b h = grind (arith, nat_tests)
    by_test false e is = absurd cc

name_is : (word name : List ℕ) → name_in word ≡ Some name → IsName name
name_is word name is = by_test (is_name word) refl is
  where
    by_test : (b : Bool) → is_name word ≡ b → (if b then Some word else None) ≡ Some name → is_name name ≡ true
    by_test true e is = let same : word ≡ name = cc in ap is_name (sym same) ∙ e
    by_test false e is = absurd cc

ranges : (words : List (List ℕ)) (command : Command) → IsCommandOf words command → CanAsk command
ranges words command (MatchRow a b query molecules same is is' made) = subst CanAsk (sym made) tt
ranges words command (LoadRow a file same is made) = subst CanAsk (sym made) tt
ranges words command (ReplaceRow a b number file same is is' made) = subst CanAsk (sym made) (within_range 1 999999999 (digits_number a) number is)
ranges words command (RemoveRow a number same is made) = subst CanAsk (sym made) (within_range 1 999999999 (digits_number a) number is)
ranges words command (QueryRow a b name file same is is' made) = subst CanAsk (sym made) (name_is a name is)
ranges words command (ForgetRow a name same is made) = subst CanAsk (sym made) (name_is a name is)
ranges words command (SearchRow a b name limit same is is' made) = subst CanAsk (sym made) (name_is a name is, within_range 1 10000 (digits_number b) limit is', tt)
ranges words command (SearchWithinRow a b d name limit budget same is is' is'' made) =
    subst CanAsk (sym made) (name_is a name is, within_range 1 10000 (digits_number b) limit is', within_range 2048 999999999 (digits_number d) budget is'')
ranges words command (ResumeRow a b cursor limit same is is' made) =
    subst CanAsk (sym made) (within_range 1 999999999 (digits_number a) cursor is, within_range 1 10000 (digits_number b) limit is', tt)
ranges words command (ResumeWithinRow a b d cursor limit budget same is is' is'' made) =
    subst CanAsk (sym made)
    (within_range 1 999999999 (digits_number a) cursor is, within_range 1 10000 (digits_number b) limit is', within_range 2048 999999999 (digits_number d) budget is'')
ranges words command (ShowRow a number same is made) = subst CanAsk (sym made) (within_range 1 999999999 (digits_number a) number is)
ranges words command (TableRow a name same is made) = subst CanAsk (sym made) (name_is a name is)
ranges words command (EnumRow a b name limit same is is' made) = subst CanAsk (sym made) (name_is a name is, within_range 1 1000 (digits_number b) limit is')
ranges words command (EnumFromRow a b d name limit from same is is' is'' made) = subst CanAsk (sym made) (name_is a name is, within_range 1 1000 (digits_number b) limit is')
ranges words command (ListRow same made) = subst CanAsk (sym made) tt
ranges words command (DrillRow a b start count same is is' made) =
    subst CanAsk (sym made) ((within_range 0 999999999 (digits_number a) start is).1, within_range 1 10000 (digits_number b) count is')

asked_in : (words : List (List ℕ)) (command : Command) → command_in words ≡ Some command → CanAsk command
asked_in words command is = ranges words command (is_row words command is)

pub can_ask_order : (words : List (List ℕ)) (o : Option Command) → command_in words ≡ o → CanAskLine (kind_of_order o)
can_ask_order words None is = tt
can_ask_order words (Some command) is = asked_in words command is

pub can_ask_line : (line : List ℕ) (kind : LineKind) → kind ≡ kind_of_line line → CanAskLine kind
can_ask_line line kind is = subst CanAskLine (sym is) (by_test (are_blank line))
  where
    by_test : (b : Bool) → CanAskLine (if b then line_kind.Blank else kind_of_order (command_in (words_of line)))
    by_test true = tt
    by_test false = can_ask_order (words_of line) (command_in (words_of line)) refl

words_order : (words : List (List ℕ)) (o : Option Command) → command_in words ≡ o → CanAskWords (kind_of_words_order o)
words_order words None is = tt
words_order words (Some command) is = asked_in words command is

behind_order : (words : List (List ℕ)) → CanAskWords (kind_behind_store words)
behind_order [] = tt
behind_order (word ∷ words) = words_order (word ∷ words) (command_in (word ∷ words)) refl

pub can_ask_words : (words : List (List ℕ)) (kind : WordsKind) → kind ≡ kind_of_words words → CanAskWords kind
can_ask_words words kind is = subst CanAskWords (sym is) (behind_order (behind_store words))

-- ---- lines and words of many words

pub line_of_many : (line : List ℕ) → are_blank line ≡ false → 4 < length (words_of line) → line_kind.NoCommand ≡ kind_of_line line
line_of_many line blank many = rw (blank, many_words (words_of line) many) refl

pub words_of_many : (words : List (List ℕ)) → 4 < length words → words_kind.NotUnderstood ≡ kind_behind_store words
words_of_many [] many = absurd (omega arith)
words_of_many (word ∷ words) many = rw (many_words (word ∷ words) many) refl
