-- How lines end, and that no LF stands in them.
use Rattle.std.proofs.Common.{◌≡◌, ℕ, ◌+◌, ◌-◌, ◌<◌, ◌≤◌, Bool, true, false, eqb, List, [], ◌∷◌, ◌++◌, length, get_or, replicate, refl, sym, ap, ◌∙◌, arith, All, subst, append_assoc}
use Rattle.std.specs.Prelude.{codes}
use Rattle.std.specs.List.{flat_map, AllByRecursion}
use Rattle.std.proofs.lemmas.Bool.{eqb-true}
use Rattle.std.proofs.lemmas.List.{length-append, append-nil, get_or_append_left, get_or_at, replicate-append-replicate}
use Rattle.std.proofs.lemmas.List.Elements.{recursion_from_All}
use Rattle.mk_text.specs.Columns.{is_space, trimmed}
use Rattle.mk_text.proofs.ForCallers.{trimmed_padded, trimmed_between, trimmed_is_between}
use Rattle.mk_props.specs.declared.property.AtomList.{AtomList}
use Rattle.mk_props.specs.declared.property.LogicLine.{LogicLine}
use Rattle.mk_props.specs.Lists.{flag_text}
use Rattle.mk_text.specs.Lines.{EndsWith}
use Rattle.mk_spelling.specs.TableSpelling.{three, spaced, count_text, at_left, wide_symbols_line, wide_logic_line, LogicFits, IsSymbol, IsRangeText}
use Rattle.mk_spelling.proofs.ThreeLemmas.{HasEnd, end_behind, three_end}

-- ---- the last byte

-- a text is empty or has a last byte
pub data Ending (text : List ℕ) : Type 0 where
  Empty : text ≡ [] → Ending text
  Last : (front : List ℕ) (last : ℕ) → text ≡ front ++ last ∷ [] → Ending text

-- with one byte more at the front
ending_more : (c : ℕ) (cs : List ℕ) → Ending cs → Ending (c ∷ cs)
ending_more c cs (Empty none) = Last [] c (ap (λ (xs : List ℕ). c ∷ xs) none)
ending_more c cs (Last front last whole) = Last (c ∷ front) last (ap (λ (xs : List ℕ). c ∷ xs) whole)

-- every text is one or the other
pub ending_of : (text : List ℕ) → Ending text
ending_of [] = Empty refl
ending_of (c ∷ cs) = ending_more c cs (ending_of cs)

-- two bytes that differ
other_by : (a b : ℕ) (test : Bool) → eqb a b ≡ test → (a ≡ b → ⊥) → eqb a b ≡ false
other_by a b true is other = absurd (other (eqb-true a b is))
other_by a b false is other = is

other_byte : (a b : ℕ) → (a ≡ b → ⊥) → eqb a b ≡ false
other_byte a b other = other_by a b _ refl other

-- a text that ends neither with a blank nor with CR
pub last_ends : (text front : List ℕ) (last : ℕ) → text ≡ front ++ last ∷ [] → (EndsWith 32 text → ⊥) → (EndsWith 13 text → ⊥) → HasEnd text
last_ends text front last whole no_blank no_cr =
    record {
      front = front;
      last = last;
      whole = whole;
      no_blank = other_byte last 32 (λ is. no_blank (front, whole ∙ ap (λ (c : ℕ). front ++ c ∷ []) is));
      no_cr = other_byte last 13 (λ is. no_cr (front, whole ∙ ap (λ (c : ℕ). front ++ c ∷ []) is));
    }

-- ---- blanks behind a text

-- a text that ends so, and blanks
pub record IsPadded (line : List ℕ) : Type 0 where
  pub core : List ℕ
  pub blanks : ℕ
  pub whole : line ≡ core ++ replicate blanks 32
  pub end : HasEnd core

-- a text with a last byte isn't empty
end_long : (text : List ℕ) → HasEnd text → 1 ≤ length text
end_long text end = omega (arith, ap length end.whole, length-append end.front (end.last ∷ []))

-- the last byte, by its place
last_at : (text : List ℕ) (end : HasEnd text) → get_or text (length text - 1) 0 ≡ end.last
last_at text end =
    let place : length end.front ≡ length text - 1 = omega (arith, ap length end.whole, length-append end.front (end.last ∷ [])) in
    ap (λ (xs : List ℕ). get_or xs (length text - 1) 0) end.whole ∙ get_or_at end.front end.last [] 0 (length text - 1) place

-- where the line begins with no blank, the text is what is left without the blanks
pub trimmed_is_core : (line : List ℕ) (padded : IsPadded line) → is_space (get_or line 0 0) ≡ false → trimmed line ≡ padded.core
trimmed_is_core line padded begins =
    let core = padded.core in
    let some : 0 < length core = end_long core padded.end in
    let start : is_space (get_or core 0 0) ≡ false =
    ap is_space (sym (get_or_append_left core (replicate padded.blanks 32) 0 0 some) ∙ ap (λ (xs : List ℕ). get_or xs 0 0) (sym padded.whole)) ∙ begins in
    let stop : is_space (get_or core (length core - 1) 0) ≡ false = ap is_space (last_at core padded.end) ∙ padded.end.no_blank in
    ap trimmed padded.whole ∙ trimmed_padded core padded.blanks ∙ ap trimmed (sym (append-nil core)) ∙ trimmed_between [] core [] refl refl some start stop

-- a line that ends so and begins with no blank is what is left of it
pub trimmed_ended : (line text : List ℕ) → line ≡ text → HasEnd text → is_space (get_or line 0 0) ≡ false → trimmed line ≡ text
trimmed_ended line text same end begins =
    trimmed_is_core line (record { core = text; blanks = 0; whole = same ∙ sym (append-nil text); end = end }) begins

-- so what is left ends so
pub trimmed_end : (line : List ℕ) → IsPadded line → is_space (get_or line 0 0) ≡ false → HasEnd (trimmed line)
trimmed_end line padded begins = subst HasEnd (sym (trimmed_is_core line padded begins)) padded.end

-- blanks behind
padded_more : (line : List ℕ) (n : ℕ) → IsPadded line → IsPadded (line ++ replicate n 32)
padded_more line n padded =
    record {
      core = padded.core;
      blanks = padded.blanks + n;
      whole = ap (λ (xs : List ℕ). xs ++ replicate n 32) padded.whole ∙ append_assoc padded.core (replicate padded.blanks 32) (replicate n 32)
          ∙ ap (λ (xs : List ℕ). padded.core ++ xs) (replicate-append-replicate padded.blanks n 32);
      end = padded.end;
    }

-- a text that ends so behind anything
padded_by : (line text : List ℕ) (n : ℕ) → HasEnd text → IsPadded (line ++ (text ++ replicate n 32))
padded_by line text n end =
    record { core = line ++ text; blanks = n; whole = sym (append_assoc line text (replicate n 32)); end = end_behind line text end }

-- ---- symbols

-- what is left without outer blanks is no longer
pub length-trimmed : (text : List ℕ) → length (trimmed text) ≤ length text
length-trimmed text =
    let between = trimmed_is_between text in
    omega (
      arith,
      ap length between.whole,
      length-append between.before (trimmed text ++ between.after),
      length-append (trimmed text) between.after,
    )

-- a text without outer blanks ends with none
ends_with_none : (text : List ℕ) → trimmed text ≡ text → EndsWith 32 text → ⊥
ends_with_none text plain ends =
    let less : length (trimmed text) ≤ length ends.0 = omega (arith, ap (λ (xs : List ℕ). length (trimmed xs)) ends.1, ap length (trimmed_padded ends.0 1), length-trimmed ends.0) in
    omega (arith, ap length plain, ap length ends.1, length-append ends.0 (32 ∷ []))

-- a symbol in its columns, behind anything
padded_symbol : (line symbol : List ℕ) → IsPadded line → IsSymbol 4 symbol → (EndsWith 13 symbol → ⊥) → IsPadded (line ++ at_left 4 symbol)
unfolding at_left
padded_symbol line symbol padded is no_cr =
    elim (ending_of symbol) [
      | Empty none ↦ subst (λ (text : List ℕ). IsPadded (line ++ (text ++ replicate (4 - length text) 32))) (sym none) (padded_more line 4 padded)
      | Last front last whole ↦ padded_by line symbol (4 - length symbol) (last_ends symbol front last whole (ends_with_none symbol is.no_blanks) no_cr)
    ]

-- symbols in their columns
padded_each : (line : List ℕ) (symbols : List (List ℕ)) → IsPadded line → AllByRecursion (IsSymbol 4) symbols → AllByRecursion (λ symbol. EndsWith 13 symbol → ⊥) symbols
    → IsPadded (line ++ flat_map (at_left 4) symbols)
padded_each line [] padded are ends = subst IsPadded (sym (append-nil line)) padded
padded_each line (symbol ∷ symbols) padded are ends =
    subst IsPadded (append_assoc line (at_left 4 symbol) (flat_map (at_left 4) symbols))
    (padded_each (line ++ at_left 4 symbol) symbols (padded_symbol line symbol padded are.0 ends.0) are.1 ends.1)

-- T and F are neither a blank nor CR
flag_end : (not : Bool) → HasEnd (flag_text not)
flag_end true = record { front = []; last = 84; whole = refl; no_blank = refl; no_cr = refl }
flag_end false = record { front = []; last = 70; whole = refl; no_blank = refl; no_cr = refl }

-- the parts of such a line
symbols_regrouped : (word atom count space flag entries : List ℕ)
    → ((word ++ (atom ++ (count ++ space))) ++ (flag ++ space)) ++ entries ≡ word ++ (atom ++ (count ++ (space ++ (flag ++ (space ++ entries)))))
symbols_regrouped word atom count space flag entries = simp append_assoc

-- the line of an atom list
pub padded_symbols : (list : AtomList) → All (IsSymbol 4) list.symbols → All (λ symbol. EndsWith 13 symbol → ⊥) list.symbols → IsPadded (wide_symbols_line list)
padded_symbols list are ends =
    let front : List ℕ = codes "M  ALS" ++ (spaced list.atom ++ (count_text list.symbols ++ codes " ")) in
    let flag = flag_text list.not in
    let entries : List ℕ = flat_map (at_left 4) list.symbols in
    subst IsPadded (symbols_regrouped (codes "M  ALS") (spaced list.atom) (count_text list.symbols) (codes " ") flag entries)
    (padded_each (front ++ (flag ++ codes " ")) list.symbols (padded_by front flag 1 (flag_end list.not))
    (recursion_from_All (IsSymbol 4) list.symbols are) (recursion_from_All (λ symbol. EndsWith 13 symbol → ⊥) list.symbols ends))

-- ---- logic

-- the line before the range
abbrev pub before_range : LogicLine → List ℕ
before_range logic = codes "M  LOG  1" ++ (spaced logic.group ++ (spaced logic.then_group ++ (spaced logic.rest ++ codes " ")))

-- the parts of such a line
range_regrouped : (word group other rest space range : List ℕ)
    → (word ++ (group ++ (other ++ (rest ++ space)))) ++ range ≡ word ++ (group ++ (other ++ (rest ++ (space ++ range))))
range_regrouped word group other rest space range = simp append_assoc

-- and where the range is empty
rest_regrouped : (word group other space rest : List ℕ)
    → (word ++ (group ++ (other ++ space))) ++ (rest ++ space) ≡ word ++ (group ++ (other ++ ((space ++ rest) ++ space)))
rest_regrouped word group other space rest = simp append_assoc

-- the range behind what stands before it
pub range_behind : (logic : LogicLine) → before_range logic ++ logic.range ≡ wide_logic_line logic
range_behind logic = range_regrouped (codes "M  LOG  1") (spaced logic.group) (spaced logic.then_group) (spaced logic.rest) (codes " ") logic.range

-- the line of a group's logic
pub padded_logic : (logic : LogicLine) → LogicFits logic → IsRangeText logic.range → IsPadded (wide_logic_line logic)
padded_logic logic fits range =
    let front : List ℕ = codes "M  LOG  1" ++ (spaced logic.group ++ (spaced logic.then_group ++ codes " ")) in
    let before = before_range logic in
    elim (ending_of logic.range) [
      | Empty none ↦
          let whole : front ++ (three logic.rest ++ codes " ") ≡ wide_logic_line logic =
          rest_regrouped (codes "M  LOG  1") (spaced logic.group) (spaced logic.then_group) (codes " ") (three logic.rest)
          ∙ ap (λ (text : List ℕ). codes "M  LOG  1" ++ (spaced logic.group ++ (spaced logic.then_group ++ (spaced logic.rest ++ (codes " " ++ text))))) (sym none) in
          subst IsPadded whole (padded_by front (three logic.rest) 1 (three_end logic.rest fits.rest))
      | Last ahead last is ↦
          let whole : before ++ (logic.range ++ []) ≡ wide_logic_line logic = ap (λ (text : List ℕ). before ++ text) (append-nil logic.range) ∙ range_behind logic in
          subst IsPadded whole (padded_by before logic.range 0 (last_ends logic.range ahead last is range.no_blank range.no_cr))
    ]
