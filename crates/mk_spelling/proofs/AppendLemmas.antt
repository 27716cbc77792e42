-- What is appended step by step. The texts are written out, since none follows from what was appended.
use Rattle.std.proofs.Common.{◌≡◌, ℕ, ◌+◌, ◌<◌, ◌≤◌, List, [], ◌∷◌, ◌++◌, length, get_or, take, map, replicate, cond, Result, Ok, Err, OnOk, refl, sym, ap, ◌∙◌, append_assoc, take_all}
use Rattle.std.specs.Prelude.{ℤ, codes}
use Rattle.std.specs.Result.{is_ok}
use Rattle.std.specs.List.{flat_map}
use Rattle.std.proofs.lemmas.List.Concat.{flat_map-append}
use Rattle.mk_tables.specs.declared.raw.RawTable.{RawTable}
use Rattle.std.proofs.lemmas.List.{take_more, flat_map_more, replicate-append-replicate}
use mir.Syntax.{w32}
use mir.Val.{to_z, of_z}
use Rattle.mk_text.specs.Lines.{ended}
use Rattle.mk_spelling.specs.TableSpelling.{three, spaced, counts_line, atom_line, bond_line, numbers_line, property_line, end_line, table_spelling, FitsThree}
use Rattle.mk_spelling.proofs.ThreeLemmas.{passed}

-- ---- texts in turn

-- a text and then the others
pub two_texts : (old new last a b : List ℕ) → new ≡ old ++ a → last ≡ new ++ b → last ≡ old ++ (a ++ b)
two_texts old new last a b one two = two ∙ ap (λ (xs : List ℕ). xs ++ b) one ∙ append_assoc old a b

-- three
pub three_texts : (old first new last a b c : List ℕ) → first ≡ old ++ a → new ≡ first ++ b → last ≡ new ++ c → last ≡ old ++ (a ++ (b ++ c))
three_texts old first new last a b c one two three = two_texts old first last a (b ++ c) one (two_texts first new last b c two three)

-- four
pub four_texts : (old first second new last a b c d : List ℕ) → first ≡ old ++ a → second ≡ first ++ b → new ≡ second ++ c → last ≡ new ++ d
    → last ≡ old ++ (a ++ (b ++ (c ++ d)))
four_texts old first second new last a b c d one two three four = two_texts old first last a (b ++ (c ++ d)) one (three_texts first second new last b c d two three four)

-- a text at the beginning
pub begun : (new last a b : List ℕ) → new ≡ a → last ≡ new ++ b → last ≡ a ++ b
begun new last a b one two = two ∙ ap (λ (xs : List ℕ). xs ++ b) one

-- another text stands for the one appended
pub as_text : (old new text other : List ℕ) → text ≡ other → new ≡ old ++ text → new ≡ old ++ other
as_text old new text other same one = one ∙ ap (λ (xs : List ℕ). old ++ xs) same

-- a number that is passed to a function
pub as_three : (old new : List ℕ) (z : ℤ) → FitsThree z → new ≡ old ++ three (to_z w32 (of_z w32 z)) → new ≡ old ++ three z
as_three old new z fits one = one ∙ ap (λ (n : ℤ). old ++ three n) (passed z fits)

-- the same behind a blank
pub as_spaced : (old new : List ℕ) (z : ℤ) → FitsThree z → new ≡ old ++ spaced (to_z w32 (of_z w32 z)) → new ≡ old ++ spaced z
as_spaced old new z fits one = one ∙ ap (λ (n : ℤ). old ++ spaced n) (passed z fits)

-- ---- the last step, where there was memory for it

-- LF behind the text
pub ended_last : {E : Type 0} (answer : Result (Unit {0}) E) (old new last text : List ℕ)
    → last ≡ cond (is_ok answer) (new ++ 10 ∷ []) new → new ≡ old ++ text → OnOk answer (last ≡ old ++ ended text)
ended_last (Ok done) old new last text one two = one ∙ ap (λ (xs : List ℕ). xs ++ 10 ∷ []) two ∙ append_assoc old text (10 ∷ [])
ended_last (Err fault) old new last text one two = tt

-- a second text
pub text_last : {E : Type 0} (answer : Result (Unit {0}) E) (old new last a b both : List ℕ)
    → new ≡ old ++ a → OnOk answer (last ≡ new ++ b) → both ≡ a ++ b → OnOk answer (last ≡ old ++ both)
text_last (Ok done) old new last a b both one two joined = two_texts old new last a b one two ∙ ap (λ (xs : List ℕ). old ++ xs) (sym joined)
text_last (Err fault) old new last a b both one two joined = tt

-- a fourth text
pub four_last : {E : Type 0} (answer : Result (Unit {0}) E) (old first second new last a b c d : List ℕ) → first ≡ old ++ a → second ≡ first ++ b → new ≡ second ++ c → OnOk answer (last ≡ new ++ d)
    → OnOk answer (last ≡ old ++ (a ++ (b ++ (c ++ d))))
four_last (Ok done) old first second new last a b c d one two three four = four_texts old first second new last a b c d one two three four
four_last (Err fault) old first second new last a b c d one two three four = tt

-- another text stands for the one appended
pub as_last : {E : Type 0} (answer : Result (Unit {0}) E) (old new text other : List ℕ) → text ≡ other → OnOk answer (new ≡ old ++ text) → OnOk answer (new ≡ old ++ other)
as_last (Ok done) old new text other same one = as_text old new text other same one
as_last (Err fault) old new text other same one = tt

-- ---- loops

-- what is written of each item so far, and of one item more
pub one_more : {X : Type 0} (text : X → List ℕ) (xs : List X) (i : ℕ) (item : X) (old new last : List ℕ)
    → i < length xs → item ≡ get_or xs i item → new ≡ old ++ flat_map text (take i xs) → last ≡ new ++ text item → last ≡ old ++ flat_map text (take (i + 1) xs)
one_more text xs i item old new last below is one two =
    two ∙ ap (λ (front : List ℕ). front ++ text item) one ∙ flat_map_more text old (take i xs) item
    ∙ ap (λ items. old ++ flat_map text items) (ap (λ x. take i xs ++ x ∷ []) is ∙ sym (take_more xs i item below))

-- and of all items
pub all_written : {X : Type 0} (text : X → List ℕ) (xs : List X) (i : ℕ) (old new : List ℕ) → length xs ≤ i → new ≡ old ++ flat_map text (take i xs) → new ≡ old ++ flat_map text xs
all_written text xs i old new all one = one ∙ ap (λ items. old ++ flat_map text items) (take_all i xs all)

-- one blank more
pub blank_more : (old new last : List ℕ) (n m : ℕ) → new ≡ old ++ replicate n 32 → last ≡ new ++ 32 ∷ [] → m ≡ n + 1 → last ≡ old ++ replicate m 32
blank_more old new last n m one two more =
    two ∙ ap (λ (xs : List ℕ). xs ++ 32 ∷ []) one ∙ append_assoc old (replicate n 32) (32 ∷ [])
    ∙ ap (λ (xs : List ℕ). old ++ xs) (replicate-append-replicate n 1 32) ∙ ap (λ (k : ℕ). old ++ replicate k 32) (sym more)

-- five texts, and a last one where there was memory for it
pub table_last : {E : Type 0} (answer : Result (Unit {0}) E) (old first second third fourth fifth last a b c d e f : List ℕ)
    → first ≡ old ++ a → second ≡ first ++ b → third ≡ second ++ c → fourth ≡ third ++ d → fifth ≡ fourth ++ e → last ≡ cond (is_ok answer) (fifth ++ f) fifth
    → OnOk answer (last ≡ old ++ (a ++ (b ++ (c ++ (d ++ (e ++ f))))))
table_last (Ok done) old first second third fourth fifth last a b c d e f one two three four five six =
    three_texts old first second last a b (c ++ (d ++ (e ++ f))) one two (four_texts second third fourth fifth last c d e f three four five six)
table_last (Err fault) old first second third fourth fifth last a b c d e f one two three four five six = tt

-- lines of entries, each with LF behind it
ended_each : {X : Type 0} (line : X → List ℕ) (xs : List X) → flat_map ended (map line xs) ≡ flat_map (λ x. ended (line x)) xs
ended_each line [] = refl
ended_each line (x ∷ xs) = ap (λ (rest : List ℕ). ended (line x) ++ rest) (ended_each line xs)

-- lines of entries, and others
ended_both : {X : Type 0} (line : X → List ℕ) (xs : List X) (lines : List (List ℕ)) (text : List ℕ) → flat_map ended lines ≡ text
    → flat_map ended (map line xs ++ lines) ≡ flat_map (λ x. ended (line x)) xs ++ text
ended_both line xs lines text others =
    flat_map-append ended (map line xs) lines ∙ ap (λ (front : List ℕ). front ++ flat_map ended lines) (ended_each line xs)
    ∙ ap (λ (back : List ℕ). flat_map (λ x. ended (line x)) xs ++ back) others

-- the parts of a table's text
pub spelling_parts : (table : RawTable) → table_spelling table
    ≡ ended (counts_line table) ++ (flat_map (λ atom. ended (atom_line atom)) table.atoms ++ (flat_map (λ bond. ended (bond_line bond)) table.bonds
    ++ (flat_map (λ list. ended (numbers_line list)) table.lists ++ (flat_map (λ property. ended (property_line property)) table.props ++ codes "M  END\n"))))
unfolding table_spelling
spelling_parts table =
    ap (λ (rest : List ℕ). ended (counts_line table) ++ rest)
    (ended_both atom_line table.atoms _ _ (ended_both bond_line table.bonds _ _
    (ended_both numbers_line table.lists _ _ (ended_both property_line table.props (end_line ∷ [])
    (codes "M  END\n") refl))))
