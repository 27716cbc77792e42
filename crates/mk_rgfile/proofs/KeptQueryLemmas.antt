-- The lines of a query file without the CR bytes at their ends are the same query file.
--     no_end               bytes without a CR don't end with one
--     all_no_cr, both_no_cr         bytes that pass a test, and two parts
--     query_left           the law of query files
--     kept_is_kept, kept_stays      the laws of kept texts
use Rattle.std.proofs.Common.{◌≡◌, ℕ, zero, suc, Bool, true, false, not, ◌&&◌, eqb, All, List, [], ◌∷◌, ◌++◌, length, get_or, replicate, map, drop, refl, sym, ap, subst, ◌∙◌, inl, inr}
use Rattle.std.specs.Prelude.{Contains, ℤ, codes, nat_eq, pos}
use Rattle.std.specs.List.{AllByRecursion, list_all, starts_with}
use Rattle.std.specs.Char.{is_ascii_digit}
use Rattle.std.proofs.lemmas.Bool.{eqb-true, true≢false}
use Rattle.std.proofs.lemmas.List.{length-map, map-append}
use Rattle.std.proofs.lemmas.List.Elements.{All-map, Contains-append_left, recursion_from_All}
use Rattle.std.proofs.lemmas.List.Folds.{list_all-append}
use Rattle.mk_form.specs.Choice.{FirstIs}
use Rattle.mk_form.specs.Rows.{Series}
use Rattle.mk_text.specs.Columns.{are_blank, is_space}
use Rattle.mk_text.specs.Fields.{IsField, Sign, NoSign, Plus, Minus, sign_text}
use Rattle.mk_text.specs.KeptLines.{kept_lines, without_crs}
use Rattle.mk_text.specs.Lines.{EndsWith, IsWholeLine, lines_of, text_of}
use Rattle.mk_text.proofs.ForCallers.{both, crs_behind, lines_hold_no_lf, text_of_lines_is_read, without_crs_end, without_crs_same}
use Rattle.mk_tables.specs.declared.raw.RawTable.{RawTable}
use Rattle.mk_tables.specs.KeptTables.{KeepsItsText}
use Rattle.mk_tables.specs.Molfile.{IsMolfile}
use Rattle.mk_tables.specs.TableLines.{Line}
use Rattle.mk_tables.proofs.ForCallers.{whole_is_table}
use Rattle.mk_rgfile.specs.declared.raw_query.RawGroup.{RawGroup}
use Rattle.mk_rgfile.specs.declared.raw_query.RawQuery.{RawQuery}
use Rattle.mk_rgfile.specs.KeptQueries.{IsKeptText, KeepsItsTexts, KeptLinesAreKept, KeptLinesAreTheQuery, KeptTextStays}
use Rattle.mk_rgfile.specs.QueryFile.{AreBlankLines, IsGroup, IsHead, IsRgfile, IsTableBlock}
use Rattle.mk_rgfile.specs.QueryLines.{IsGroupNumber, begins_mdl, is_keyword}
use Rattle.mk_rgfile.proofs.QueryLineLemmas.{begins}

-- ---- bytes without a CR

-- the byte isn't CR
abbrev is_no_cr : ℕ → Bool
is_no_cr b = not (eqb b 13)

-- no byte is CR
abbrev pub has_no_cr : List ℕ → Bool
has_no_cr bytes = list_all is_no_cr bytes

-- two parts without hold none
pub both_no_cr : (xs ys : List ℕ) → has_no_cr xs ≡ true → has_no_cr ys ≡ true → has_no_cr (xs ++ ys) ≡ true
both_no_cr xs ys first second = list_all-append is_no_cr xs ys ∙ rw (first, second) refl

-- nor do bytes that pass a test which CR fails
one_no_cr : (p : ℕ → Bool) (c : ℕ) (b : Bool) → eqb c 13 ≡ b → p 13 ≡ false → p c ≡ true → is_no_cr c ≡ true
one_no_cr p c true is fails passes = absurd (true≢false (sym passes ∙ ap p (eqb-true c 13 is) ∙ fails))
one_no_cr p c false is fails passes = rw is refl

pub all_no_cr : (p : ℕ → Bool) (bytes : List ℕ) → p 13 ≡ false → list_all p bytes ≡ true → has_no_cr bytes ≡ true
all_no_cr p [] fails all = refl
all_no_cr p (c ∷ bytes) fails all =
    let two = both (p c) (list_all p bytes) all in
    rw (one_no_cr p c (eqb c 13) refl fails two.0, all_no_cr p bytes fails two.1) refl

-- blanks are such
pub blank_no_cr : (cells : List ℕ) → are_blank cells ≡ true → has_no_cr cells ≡ true
blank_no_cr cells blank = all_no_cr is_space cells refl blank

-- bytes without a CR don't end with one
pub no_end : (bytes : List ℕ) → has_no_cr bytes ≡ true → EndsWith 13 bytes → ⊥
no_end bytes none ends =
    let last : (has_no_cr ends.0 && false) ≡ true = sym (list_all-append is_no_cr ends.0 (13 ∷ [])) ∙ ap has_no_cr (sym ends.1) ∙ none in
    true≢false (sym (both (has_no_cr ends.0) false last).1)

-- nor does a number in columns of its own
sign_no_cr : (sign : Sign) → has_no_cr (sign_text sign) ≡ true
sign_no_cr NoSign = refl
sign_no_cr Plus = refl
sign_no_cr Minus = refl

field_no_cr : (cells : List ℕ) (z : ℤ) → IsField cells z → has_no_cr cells ≡ true
field_no_cr cells z (inl blank) = blank_no_cr cells blank.0
field_no_cr cells z (inr is) =
    let number = both_no_cr (sign_text is.sign) is.digits (sign_no_cr is.sign) (all_no_cr is_ascii_digit is.digits refl is.are_digits) in
    let behind = both_no_cr (sign_text is.sign ++ is.digits) is.after number (blank_no_cr is.after is.blank_after) in
    ap has_no_cr is.whole ∙ both_no_cr is.before ((sign_text is.sign ++ is.digits) ++ is.after) (blank_no_cr is.before is.blank_before) behind

-- ---- single lines

-- a line without a CR stays
stays : (line : Line) → has_no_cr line ≡ true → without_crs line ≡ line
stays line none = without_crs_same line (no_end line none)

-- so does a keyword with blanks behind it
keyword_stays : (word : List ℕ) (line : Line) → has_no_cr word ≡ true → is_keyword word line ≡ true → is_keyword word (without_crs line) ≡ true
keyword_stays word line none is =
    let two = both (starts_with nat_eq line word) (are_blank (drop (length word) line)) is in
    let clean = both_no_cr word (drop (length word) line) none (blank_no_cr (drop (length word) line) two.1) in
    ap (is_keyword word) (stays line (ap has_no_cr (begins line word two.0) ∙ clean)) ∙ is

-- and a number
number_stays : (line : Line) (number : ℕ) → IsGroupNumber line number → IsGroupNumber (without_crs line) number
number_stays line number is =
    let same = stays line (field_no_cr line (pos number) is.field) in
    subst (λ (l : Line). IsGroupNumber l number) (sym same) is

-- what some bytes begin with, they begin with also where others stand behind
starts_more : (word core behind : List ℕ) → starts_with nat_eq core word ≡ true → starts_with nat_eq (core ++ behind) word ≡ true
starts_more [] core behind is = refl
starts_more (c ∷ word) [] behind is = absurd cc
starts_more (c ∷ word) (x ∷ core) behind is =
    let two = both (eqb c x) (starts_with nat_eq core word) is in
    rw (two.0, starts_more word core behind two.1) refl

-- and without CR bytes behind, where the word holds none
starts_less : (word core : List ℕ) (n : ℕ) → has_no_cr word ≡ true → starts_with nat_eq (core ++ replicate n 13) word ≡ true → starts_with nat_eq core word ≡ true
starts_less [] core n none is = refl
starts_less (c ∷ word) [] zero none is = is
starts_less (c ∷ word) [] (suc n) none is =
    let first : c ≡ 13 = eqb-true c 13 (both (eqb c 13) (starts_with nat_eq (replicate n 13) word) is).0 in
    absurd (true≢false (sym (both (is_no_cr c) (has_no_cr word) none).0 ∙ ap is_no_cr first))
starts_less (c ∷ word) (x ∷ core) n none is =
    let two = both (eqb c x) (starts_with nat_eq (core ++ replicate n 13) word) is in
    rw (two.0, starts_less word core n (both (is_no_cr c) (has_no_cr word) none).1 two.1) refl

-- so a line begins with `$MDL` where it does without the CR bytes at its end
mdl_left : (line : Line) (b : Bool) → begins_mdl line ≡ b → begins_mdl (without_crs line) ≡ b
mdl_left line true is = let w = crs_behind line in starts_less (codes "$MDL") (without_crs line) w.0 refl (ap begins_mdl (sym w.1) ∙ is)
mdl_left line false is = by_test (begins_mdl (without_crs line)) refl
  where
    by_test : (b : Bool) → begins_mdl (without_crs line) ≡ b → begins_mdl (without_crs line) ≡ false
    by_test true more =
        let w = crs_behind line in
        absurd (true≢false (sym (ap begins_mdl w.1 ∙ starts_more (codes "$MDL") (without_crs line) (replicate w.0 13) more) ∙ is))
    by_test false none = none

-- ---- lines one after the other

-- the lines of some texts
abbrev left : List Line → List Line
left lines = map without_crs lines

-- two parts
parts_left : (lines front back : List Line) → lines ≡ front ++ back → left lines ≡ left front ++ left back
parts_left lines front back whole = ap left whole ∙ map-append without_crs front back

-- blank lines
blanks_left : (lines : List Line) → AreBlankLines lines → AreBlankLines (left lines)
blanks_left [] blank = tt
blanks_left (line ∷ lines) blank = (ap are_blank (stays line (blank_no_cr line blank.0)) ∙ blank.0, blanks_left lines blank.1)

-- a first line that doesn't begin with `$MDL`
first_left : (lines : List Line) → FirstIs begins_mdl false lines → FirstIs begins_mdl false (left lines)
first_left [] none = none
first_left (line ∷ lines) none = mdl_left line false none

-- texts of some values
series_left : {X : Type 0} (P : List Line → X → Type 0) (K : X → Type 0) → ((lines : List Line) (x : X) → K x → P lines x → P (left lines) x)
    → (lines : List Line) (xs : List X) → AllByRecursion K xs → Series P lines xs → Series P (left lines) xs
series_left P K keeps lines [] each is = ap left is
series_left P K keeps lines (x ∷ xs) each (front, back, whole, one, others) =
    (left front, left back, parts_left lines front back whole, keeps front x each.0 one, series_left P K keeps back xs each.1 others)

-- ---- tables and groups

-- a table between its keywords
block_left : (lines : List Line) (table : RawTable) → KeepsItsText table → IsTableBlock lines table → IsTableBlock (left lines) table
block_left lines table keeps is = record {
  open_line = without_crs is.open_line;
  table_lines = left is.table_lines;
  close_line = without_crs is.close_line;
  whole = ap left is.whole ∙ ap (λ (ls : List Line). without_crs is.open_line ∷ ls) (map-append without_crs is.table_lines (is.close_line ∷ []));
  opens = keyword_stays (codes "$CTAB") is.open_line refl is.opens;
  is = whole_is_table is.table_lines table is.is keeps;
  closes = keyword_stays (codes "$END CTAB") is.close_line refl is.closes;
}

-- each member of the group keeps its text
abbrev MembersKeep : RawGroup → Type 0
MembersKeep group = All KeepsItsText group.members

group_left : (lines : List Line) (group : RawGroup) → MembersKeep group → IsGroup lines group → IsGroup (left lines) group
group_left lines group keeps is = record {
  open_line = without_crs is.open_line;
  number_line = without_crs is.number_line;
  member_lines = left is.member_lines;
  close_line = without_crs is.close_line;
  whole = ap left is.whole ∙ ap (λ (ls : List Line). without_crs is.open_line ∷ without_crs is.number_line ∷ ls) (map-append without_crs is.member_lines (is.close_line ∷ []));
  opens = keyword_stays (codes "$RGP") is.open_line refl is.opens;
  number = number_stays is.number_line group.number is.number;
  members = series_left IsTableBlock KeepsItsText block_left is.member_lines group.members (recursion_from_All KeepsItsText group.members keeps) is.members;
  some = is.some;
  closes = keyword_stays (codes "$END RGP") is.close_line refl is.closes;
}

-- ---- the whole

head_left : (lines : List Line) → IsHead lines → IsHead (left lines)
head_left lines is = record {
  first_line = without_crs is.first_line;
  mol_line = without_crs is.mol_line;
  open_line = without_crs is.open_line;
  header_lines = left is.header_lines;
  close_line = without_crs is.close_line;
  whole = ap left is.whole
      ∙ ap (λ (ls : List Line). without_crs is.first_line ∷ without_crs is.mol_line ∷ without_crs is.open_line ∷ ls) (map-append without_crs is.header_lines (is.close_line ∷ []));
  first = mdl_left is.first_line true is.first;
  mol = keyword_stays (codes "$MOL") is.mol_line refl is.mol;
  opens = keyword_stays (codes "$HDR") is.open_line refl is.opens;
  three = length-map is.header_lines without_crs ∙ is.three;
  closes = keyword_stays (codes "$END HDR") is.close_line refl is.closes;
}

rgfile_left : (lines : List Line) (query : RawQuery) → KeepsItsTexts query → IsRgfile lines query → IsRgfile (left lines) query
rgfile_left lines query keeps is = record {
  head_lines = left is.head_lines;
  root_lines = left is.root_lines;
  group_lines = left is.group_lines;
  last_line = without_crs is.last_line;
  blank_lines = left is.blank_lines;
  whole =
      let behind = is.last_line ∷ is.blank_lines in
      parts_left lines is.head_lines (is.root_lines ++ (is.group_lines ++ behind)) is.whole
      ∙ ap (λ (ls : List Line). left is.head_lines ++ ls) (map-append without_crs is.root_lines (is.group_lines ++ behind)
      ∙ ap (λ (ls : List Line). left is.root_lines ++ ls) (map-append without_crs is.group_lines behind));
  head = head_left is.head_lines is.head;
  root = block_left is.root_lines query.root keeps.root is.root;
  groups = series_left IsGroup MembersKeep group_left is.group_lines query.groups (recursion_from_All MembersKeep query.groups keeps.members) is.groups;
  last = keyword_stays (codes "$END MOL") is.last_line refl is.last;
  blanks = blanks_left is.blank_lines is.blanks;
}

molfile_left : (lines : List Line) (table : RawTable) → KeepsItsText table → IsMolfile lines table → IsMolfile (left lines) table
molfile_left lines table keeps is = record {
  header_lines = left is.header_lines;
  table_lines = left is.table_lines;
  whole = parts_left lines is.header_lines is.table_lines is.whole;
  three = length-map is.header_lines without_crs ∙ is.three;
  is = whole_is_table is.table_lines table is.is keeps;
}

pub query_left : KeptLinesAreTheQuery
query_left lines query (inl is) keeps = inl (rgfile_left lines query keeps is)
query_left lines query (inr is) keeps =
    inr (record {
      molfile_lines = left is.molfile_lines;
      blank_lines = left is.blank_lines;
      whole = parts_left lines is.molfile_lines is.blank_lines is.whole;
      first = first_left is.molfile_lines is.first;
      is = molfile_left is.molfile_lines query.root keeps.root is.is;
      none = is.none;
      blanks = blanks_left is.blank_lines is.blanks;
    })

-- ---- kept texts
-- a line of a text, without the CR bytes at its end, is whole
left_is_whole : (line : Line) → (Contains line 10 → ⊥) → IsWholeLine (without_crs line)
left_is_whole line none =
    let w = crs_behind line in
    record {
      no_lf = λ here. none (subst (λ (l : Line). Contains l 10) (sym w.1) (Contains-append_left (without_crs line) (replicate w.0 13) 10 here));
      no_cr = without_crs_end line;
    }

-- the kept lines of a text are a kept text
pub kept_is_kept : KeptLinesAreKept
kept_is_kept text = record {
  lines = left (lines_of text);
  whole = All-map IsWholeLine without_crs (lines_of text) (λ k d below. left_is_whole (get_or (lines_of text) k d) (lines_hold_no_lf text k d below));
  is = refl;
}

-- whole lines stay
whole_stay : (lines : List Line) → AllByRecursion IsWholeLine lines → left lines ≡ lines
whole_stay [] each = refl
whole_stay (line ∷ lines) each =
    ap (λ (l : Line). l ∷ left lines) (without_crs_same line each.0.no_cr) ∙ ap (λ (ls : List Line). line ∷ ls) (whole_stay lines each.1)

-- a text is kept exactly where its kept lines are the text
pub kept_stays : KeptTextStays
kept_stays text = (
  λ kept.
      ap (λ (t : List ℕ). kept_lines (lines_of t)) kept.is
      ∙ ap kept_lines (text_of_lines_is_read kept.lines kept.whole)
      ∙ ap text_of (whole_stay kept.lines (recursion_from_All IsWholeLine kept.lines kept.whole))
      ∙ sym kept.is,
  λ same. subst IsKeptText same (kept_is_kept text),
)
