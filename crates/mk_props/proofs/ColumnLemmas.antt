-- Columns are their single cells, and a word at a line's beginning is a test of each of its cells.
use Rattle.std.proofs.Common.{◌≡◌, ℕ, suc, ◌+◌, ◌-◌, ◌<◌, ◌≤◌, inl, inr, true, ◌&&◌, eqb, List, [], ◌∷◌, ◌++◌, length, get_or, take, drop, replicate, refl, sym, ap, ◌∙◌, arith, lit≤}
use Rattle.std.proofs.lemmas.Bool.{eqb-true, eq-eqb, cases_lt}
use Rattle.std.proofs.lemmas.List.{drop_more, get_or_append_left, get_or-append_right, get_or-replicate, get_or_past, length-append, length-replicate}
use Rattle.std.specs.Prelude.{codes}
use Rattle.mk_text.specs.Columns.{columns, is_space}
use Rattle.mk_text.proofs.ForCallers.{both}
use Rattle.mk_props.specs.Reading.{cell_of, spells}

-- ---- cells

-- a line padded with blanks has in each column what the line has there, and else a blank
padded_cell : (line : List ℕ) (n i : ℕ) → i < length line + n → get_or (line ++ replicate n 32) i 32 ≡ get_or line i 32
padded_cell line n i within =
    elim (cases_lt i (length line)) [
      | inl on ↦ get_or_append_left line (replicate n 32) 32 i on
      | inr past ↦
          get_or-append_right line (replicate n 32) (length line) i 32 refl past ∙ get_or-replicate n (i - length line) 32 32 (omega arith)
          ∙ sym (get_or_past line i 32 past)
    ]

-- the columns from one on are its cell and the columns behind it
pub columns_more : (line : List ℕ) (a b : ℕ) → 1 ≤ a → a ≤ b → columns line a b ≡ cell_of line a ∷ columns line (a + 1) b
unfolding columns cell_of
columns_more line a b first order =
    let whole = line ++ replicate b 32 in
    let size : length whole ≡ length line + b = omega (arith, length-append line (replicate b 32), length-replicate {A = ℕ} b 32) in
    let from : a - 1 < length whole = omega arith in
    let next : a - 1 + 1 ≡ a + 1 - 1 = omega arith in
    let left : b - (a - 1) ≡ suc (b - (a + 1 - 1)) = omega arith in
    ap (λ (cells : List ℕ). take (b - (a - 1)) cells) (drop_more whole (a - 1) 32 from ∙ ap (λ (i : ℕ). get_or whole (a - 1) 32 ∷ drop i whole) next)
    ∙ ap (λ (n : ℕ). take n (get_or whole (a - 1) 32 ∷ drop (a + 1 - 1) whole)) left
    ∙ ap (λ (c : ℕ). c ∷ take (b - (a + 1 - 1)) (drop (a + 1 - 1) whole)) (padded_cell line b (a - 1) (omega arith))

-- behind the last one there are none
columns_none : (line : List ℕ) (b : ℕ) → columns line (b + 1) b ≡ []
unfolding columns
columns_none line b =
    let none : b - (b + 1 - 1) ≡ 0 = omega arith in
    ap (λ (n : ℕ). take n (drop (b + 1 - 1) (line ++ replicate b 32))) none

-- one column
pub column-cell : (line : List ℕ) (at : ℕ) → 1 ≤ at → columns line at at ≡ cell_of line at ∷ []
column-cell line at first = columns_more line at at first (omega arith) ∙ ap (λ (cells : List ℕ). cell_of line at ∷ cells) (columns_none line at)

-- a blank column
pub blank_column : (line : List ℕ) (at : ℕ) → 1 ≤ at → eqb (cell_of line at) 32 ≡ true → columns line at at ≡ 32 ∷ []
blank_column line at first blank = column-cell line at first ∙ ap (λ (c : ℕ). c ∷ []) (eqb-true (cell_of line at) 32 blank)

-- its cell
pub column_blank : (line : List ℕ) (at : ℕ) → 1 ≤ at → columns line at at ≡ 32 ∷ [] → cell_of line at ≡ 32
column_blank line at first blank = let cells = column-cell line at first in cc

-- ---- words

-- the columns that pass the test of a text hold it
pub spells_found : (line : List ℕ) (at : ℕ) (text : List ℕ) → 1 ≤ at → spells line at text ≡ true
    → columns line at (at + length text - 1) ≡ text
spells_found line at [] first spelled =
    let none : at ≡ at + 0 - 1 + 1 = omega arith in
    ap (λ (k : ℕ). columns line k (at + 0 - 1)) none ∙ columns_none line (at + 0 - 1)
spells_found line at (c ∷ []) first spelled =
    let one : at + 1 - 1 ≡ at = omega arith in
    ap (columns line at) one ∙ column-cell line at first ∙ ap (λ (cell : ℕ). cell ∷ []) (eqb-true (cell_of line at) c spelled)
spells_found line at (c ∷ d ∷ text) first spelled =
    let h = both (eqb (cell_of line at) c) (spells line (at + 1) (d ∷ text)) spelled in
    let same : at + suc (suc (length text)) - 1 ≡ at + 1 + suc (length text) - 1 = omega arith in
    columns_more line at (at + suc (suc (length text)) - 1) first (omega arith)
    ∙ ap (λ (b : ℕ). cell_of line at ∷ columns line (at + 1) b) same
    ∙ ap (λ (cells : List ℕ). cell_of line at ∷ cells) (spells_found line (at + 1) (d ∷ text) (omega arith) h.1)
    ∙ ap (λ (cell : ℕ). cell ∷ d ∷ text) (eqb-true (cell_of line at) c h.0)

-- the cells of the columns 1 to 3
cells_to_3 : (line : List ℕ) → columns line 1 3 ≡ cell_of line 1 ∷ cell_of line 2 ∷ cell_of line 3 ∷ []
cells_to_3 line =
    columns_more line 1 3 (lit≤ tt) (lit≤ tt) ∙ ap (λ (cells : List ℕ). cell_of line 1 ∷ cells)
    (columns_more line 2 3 (lit≤ tt) (lit≤ tt) ∙ ap (λ (cells : List ℕ). cell_of line 2 ∷ cells) (column-cell line 3 (lit≤ tt)))

-- the cells of the columns 4 to 6
cells_from_4 : (line : List ℕ) → columns line 4 6 ≡ cell_of line 4 ∷ cell_of line 5 ∷ cell_of line 6 ∷ []
cells_from_4 line =
    columns_more line 4 6 (lit≤ tt) (lit≤ tt) ∙ ap (λ (cells : List ℕ). cell_of line 4 ∷ cells)
    (columns_more line 5 6 (lit≤ tt) (lit≤ tt) ∙ ap (λ (cells : List ℕ). cell_of line 5 ∷ cells) (column-cell line 6 (lit≤ tt)))

-- the columns 1 to 6 are the columns 1 to 3 and the columns 4 to 6
joined : (line : List ℕ) → columns line 1 6 ≡ columns line 1 3 ++ columns line 4 6
joined line =
    columns_more line 1 6 (lit≤ tt) (lit≤ tt) ∙ ap (λ (cells : List ℕ). cell_of line 1 ∷ cells)
    (columns_more line 2 6 (lit≤ tt) (lit≤ tt) ∙ ap (λ (cells : List ℕ). cell_of line 2 ∷ cells)
    (columns_more line 3 6 (lit≤ tt) (lit≤ tt)))
    ∙ sym (ap (λ (cells : List ℕ). cells ++ columns line 4 6) (cells_to_3 line))

-- a line that begins with a letter and two blanks
pub letter_found : (line letter : List ℕ) → length letter ≡ 1 → spells line 1 letter ≡ true
    → (is_space (cell_of line 2) && is_space (cell_of line 3)) ≡ true → columns line 1 3 ≡ letter ++ codes "  "
letter_found line letter one spelled blank =
    let h = both (is_space (cell_of line 2)) (is_space (cell_of line 3)) blank in
    let end : 1 + length letter - 1 ≡ 1 = omega arith in
    let first : cell_of line 1 ∷ [] ≡ letter = sym (column-cell line 1 (lit≤ tt)) ∙ sym (ap (columns line 1) end) ∙ spells_found line 1 letter (lit≤ tt) spelled in
    cells_to_3 line ∙ ap (λ (cells : List ℕ). cells ++ (cell_of line 2 ∷ cell_of line 3 ∷ [])) first
    ∙ ap (λ (c : ℕ). letter ++ (c ∷ cell_of line 3 ∷ [])) (eqb-true (cell_of line 2) 32 h.0)
    ∙ ap (λ (c : ℕ). letter ++ (32 ∷ c ∷ [])) (eqb-true (cell_of line 3) 32 h.1)

-- a line that begins with three columns and goes on with a word of three
pub word_found : (line front word : List ℕ) → columns line 1 3 ≡ front → length word ≡ 3 → spells line 4 word ≡ true
    → columns line 1 6 ≡ front ++ word
word_found line front word begins three spelled =
    let end : 4 + length word - 1 ≡ 6 = omega arith in
    let others : columns line 4 6 ≡ word = sym (ap (columns line 4) end) ∙ spells_found line 4 word (lit≤ tt) spelled in
    joined line ∙ ap (λ (cells : List ℕ). cells ++ columns line 4 6) begins ∙ ap (λ (cells : List ℕ). front ++ cells) others

-- a line begins with these three columns
pub record BeginsWith (line : List ℕ) (a b c : ℕ) : Type 0 where
  pub at_1 : cell_of line 1 ≡ a
  pub at_2 : cell_of line 2 ≡ b
  pub at_3 : cell_of line 3 ≡ c

-- and goes on with these three
pub record GoesOnWith (line : List ℕ) (a b c : ℕ) : Type 0 where
  pub at_4 : cell_of line 4 ≡ a
  pub at_5 : cell_of line 5 ≡ b
  pub at_6 : cell_of line 6 ≡ c

-- the cells of a line that begins with three columns
pub begins_from : {line : List ℕ} {a b c : ℕ} → columns line 1 3 ≡ a ∷ b ∷ c ∷ [] → BeginsWith line a b c
begins_from {line} is = let cells = cells_to_3 line in record { at_1 = cc; at_2 = cc; at_3 = cc }

-- the columns of a line with three cells
pub begins_to : {line : List ℕ} {a b c : ℕ} → BeginsWith line a b c → columns line 1 3 ≡ a ∷ b ∷ c ∷ []
begins_to {line} begins = let cells = cells_to_3 line in cc (begins.at_1, begins.at_2, begins.at_3)

-- the cells of a line that begins with six columns
pub word_from : {line : List ℕ} {a b c d e f : ℕ} → columns line 1 6 ≡ a ∷ b ∷ c ∷ d ∷ e ∷ f ∷ []
    → BeginsWith line a b c × GoesOnWith line d e f
word_from {line} is =
    let whole = joined line in
    let before = cells_to_3 line in
    let after = cells_from_4 line in
    let cells : columns line 1 6 ≡ cell_of line 1 ∷ cell_of line 2 ∷ cell_of line 3 ∷ cell_of line 4 ∷ cell_of line 5 ∷ cell_of line 6 ∷ [] =
    whole ∙ ap (λ (xs : List ℕ). xs ++ columns line 4 6) before ∙ ap (λ (xs : List ℕ). cell_of line 1 ∷ cell_of line 2 ∷ cell_of line 3 ∷ xs) after in
    (record { at_1 = cc; at_2 = cc; at_3 = cc }, record { at_4 = cc; at_5 = cc; at_6 = cc })

-- a line that begins with six columns passes the test of the last three
pub word_spelled : (line : List ℕ) {a b c d e f : ℕ} → columns line 1 6 ≡ a ∷ b ∷ c ∷ d ∷ e ∷ f ∷ []
    → spells line 4 (d ∷ e ∷ f ∷ []) ≡ true
word_spelled line {d = d} {e = e} {f = f} is =
    let goes_on = (word_from is).1 in
    rw (eq-eqb (cell_of line 4) d goes_on.at_4, eq-eqb (cell_of line 5) e goes_on.at_5, eq-eqb (cell_of line 6) f goes_on.at_6) refl
