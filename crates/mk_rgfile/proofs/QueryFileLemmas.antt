-- Query files are read exactly.
use Rattle.std.proofs.Common.{◌≡◌, Bool, true, false, Some, List, [], ◌∷◌, ◌++◌, length, refl, sym, ap, subst, ◌∙◌, append_assoc, inl, inr, arith}
use Rattle.std.specs.Prelude.{codes}
use Rattle.std.proofs.lemmas.List.{append-nil, length-append}
use Rattle.mk_form.specs.Choice.{FirstIs}
use Rattle.mk_form.specs.Exact.{Part, Exact, Completes, NeverDue, Anything, NoLines}
use Rattle.mk_form.specs.InWords.{form}
use Rattle.mk_form.proofs.Fronts.{exact-form, completes-form, completes-line, completes-line_where, completes-any_lines, completes-lines_to_end, completes-seen_as, completes-sequence}
use Rattle.mk_form.proofs.Lines.{exact-line, passes}
use Rattle.mk_form.proofs.NeverDue.{never-line, never-sequence, never-any_lines}
use Rattle.mk_form.proofs.Rows.{exact-any_lines}
use Rattle.mk_form.proofs.Seen.{exact-seen_as}
use Rattle.mk_form.proofs.Sequence.{exact-sequence}
use Rattle.mk_form.proofs.ToEnd.{exact-lines_to_end}
use Rattle.mk_text.specs.Columns.{are_blank}
use Rattle.mk_tables.specs.declared.raw.RawTable.{RawTable}
use Rattle.mk_tables.specs.Table.{IsTable}
use Rattle.mk_tables.specs.TableLines.{Line, is_v3000}
use Rattle.mk_tables.proofs.ForCallers.{exact-table}
use Rattle.mk_rgfile.specs.declared.raw_query.RawGroup.{RawGroup}
use Rattle.mk_rgfile.specs.declared.raw_query.RawQuery.{RawQuery}
use Rattle.mk_rgfile.specs.QueryLines.{begins_mdl, is_keyword}
use Rattle.mk_rgfile.specs.QueryFile.{IsHead, AreBlankLines, IsRgfile, IsMolfileQuery, IsQueryFile, IsHeadToTable, IsRgfileToMember, IsCountsDue}
use Rattle.mk_rgfile.specs.QueryReading.{first_of, head_part, behind_head, groups_in, query_with, blanks_part, rgfile_part, molfile_part, behind_first, query_part, query_at}
use Rattle.mk_rgfile.proofs.QueryPartLemmas.{keyword_line, exact-keyword, exact-table_block, exact-groups_to_end, completes-groups_to_end}

-- ---- the parts, in the order of the definition

exact-head_part : Exact is_v3000 Anything head_part
exact-head_part =
    exact-sequence (exact-keyword (codes "$MOL")) (λ _.
    exact-sequence (exact-keyword (codes "$HDR")) (λ _.
    exact-sequence (exact-any_lines 3) (λ _.
    exact-keyword (codes "$END HDR"))))

exact-blanks_part : (query : RawQuery) → Exact is_v3000 NoLines (blanks_part query)
exact-blanks_part query = exact-seen_as (λ _. query) (exact-lines_to_end are_blank)

exact-rgfile_part : Exact is_v3000 NoLines rgfile_part
exact-rgfile_part =
    exact-sequence exact-head_part (λ _.
    exact-sequence exact-table_block (λ root.
    exact-sequence (exact-seen_as groups_in exact-groups_to_end) (λ groups.
    exact-blanks_part (query_with root groups))))

exact-molfile_part : Exact is_v3000 NoLines molfile_part
exact-molfile_part = exact-sequence (exact-any_lines 2) (λ _. exact-sequence exact-table (λ table. exact-blanks_part (query_with table [])))

exact-behind_first : (is_mdl : Bool) → Exact is_v3000 NoLines (behind_first is_mdl)
exact-behind_first true = exact-rgfile_part
exact-behind_first false = exact-molfile_part

exact-query_part : Exact is_v3000 NoLines query_part
exact-query_part = exact-sequence (exact-line first_of) exact-behind_first

-- ---- the beginning of a query file can be completed

completes-head_part : Completes head_part
completes-head_part =
    completes-sequence (completes-line_where (is_keyword (codes "$MOL")) (codes "$MOL") refl) (λ _.
    completes-sequence (completes-line_where (is_keyword (codes "$HDR")) (codes "$HDR") refl) (λ _.
    completes-sequence (completes-any_lines [] 3) (λ _.
    completes-line_where (is_keyword (codes "$END HDR")) (codes "$END HDR") refl)))

completes-blanks_part : (query : RawQuery) → Completes (blanks_part query)
completes-blanks_part query = completes-seen_as (λ _. query) (completes-lines_to_end are_blank)

completes-rgfile_part : Completes rgfile_part
completes-rgfile_part =
    completes-sequence completes-head_part (λ _.
    completes-sequence (completes-form exact-table_block) (λ root.
    completes-sequence (completes-seen_as groups_in completes-groups_to_end) (λ groups.
    completes-blanks_part (query_with root groups))))

completes-molfile_part : Completes molfile_part
completes-molfile_part = completes-sequence (completes-any_lines [] 2) (λ _. completes-sequence (completes-form exact-table) (λ table. completes-blanks_part (query_with table [])))

completes-behind_first : (is_mdl : Bool) → Completes (behind_first is_mdl)
completes-behind_first true = completes-rgfile_part
completes-behind_first false = completes-molfile_part

completes-query_part : Completes query_part
completes-query_part = completes-sequence (completes-line first_of [] false refl) completes-behind_first

-- ---- in the words of the definition

-- a line before others
abbrev before : Line → List Line → List Line
before line lines = line ∷ lines

-- a head, behind its first line
to_head : (line : Line) (lines : List Line) (u : Unit {0}) → begins_mdl line ≡ true → head_part.is lines u → IsHead (line ∷ lines)
to_head line lines u first h =
    let hdr = h.second in
    let three = hdr.second in
    let close = three.second in
    let hdr_is : h.back ≡ hdr.first.line ∷ (three.front ++ close.line ∷ []) =
    hdr.whole ∙ ap (λ (x : List Line). x ++ hdr.back) hdr.first.whole ∙ ap (before hdr.first.line) (three.whole ∙ ap (λ (x : List Line). three.front ++ x) close.whole) in
    let whole : line ∷ lines ≡ line ∷ h.first.line ∷ hdr.first.line ∷ (three.front ++ close.line ∷ []) =
    ap (before line) (h.whole ∙ ap (λ (x : List Line). x ++ h.back) h.first.whole ∙ ap (before h.first.line) hdr_is) in
    record {
      first_line = line;
      mol_line = h.first.line;
      open_line = hdr.first.line;
      header_lines = three.front;
      close_line = close.line;
      whole = whole;
      first = first;
      mol = passes (is_keyword (codes "$MOL")) h.first.line h.middle h.first.spells;
      opens = passes (is_keyword (codes "$HDR")) hdr.first.line hdr.middle hdr.first.spells;
      three = three.first;
      closes = passes (is_keyword (codes "$END HDR")) close.line u close.spells;
    }

-- the lines of a head behind its first line
abbrev behind_mdl : {lines : List Line} → IsHead lines → List Line
behind_mdl h = h.mol_line ∷ h.open_line ∷ (h.header_lines ++ h.close_line ∷ [])

from_head : (lines : List Line) (h : IsHead lines) → head_part.is (behind_mdl h) tt
from_head lines h = record {
  front = h.mol_line ∷ [];
  back = h.open_line ∷ (h.header_lines ++ h.close_line ∷ []);
  middle = tt;
  whole = refl;
  first = keyword_line (codes "$MOL") h.mol_line h.mol;
  second = record {
    front = h.open_line ∷ [];
    back = h.header_lines ++ h.close_line ∷ [];
    middle = tt;
    whole = refl;
    first = keyword_line (codes "$HDR") h.open_line h.opens;
    second = record { front = h.header_lines; back = h.close_line ∷ []; middle = tt; whole = refl; first = h.three; second = keyword_line (codes "$END HDR") h.close_line h.closes };
  };
}

-- what the parts make up, by the first line
to_query_at : (is_mdl : Bool) (line : Line) (lines : List Line) (query : RawQuery) → begins_mdl line ≡ is_mdl → (behind_first is_mdl).is lines query → IsQueryFile (line ∷ lines) query
to_query_at true line lines query first h =
    let root = h.second in
    let groups = root.second in
    let end = groups.first.is in
    let blanks = groups.second in
    let last = end.last.line in
    let groups_are : root.back ≡ end.front ++ last ∷ groups.back =
    groups.whole ∙ ap (λ (x : List Line). x ++ groups.back) (end.whole ∙ ap (λ (x : List Line). end.front ++ x) end.last.whole) ∙ append_assoc end.front (last ∷ []) groups.back in
    let made : IsRgfile (line ∷ lines) (query_with root.middle groups.first.first.0) = record {
      head_lines = line ∷ h.front;
      root_lines = root.front;
      group_lines = end.front;
      last_line = last;
      blank_lines = groups.back;
      whole = ap (before line) (h.whole ∙ ap (λ (x : List Line). h.front ++ x) (root.whole ∙ ap (λ (x : List Line). root.front ++ x) groups_are));
      head = to_head line h.front h.middle first h.first;
      root = root.first;
      groups = end.items;
      last = passes (is_keyword (codes "$END MOL")) last groups.first.first.1 end.last.spells;
      blanks = blanks.is;
    } in
    subst (IsQueryFile (line ∷ lines)) (sym (blanks.seen ∙ ap (query_with root.middle) groups.first.seen)) (inl made)
to_query_at false line lines query first h =
    let table = h.second in
    let blanks = table.second in
    let made : IsMolfileQuery (line ∷ lines) (query_with table.middle []) = record {
      molfile_lines = line ∷ (h.front ++ table.front);
      blank_lines = table.back;
      whole = ap (before line) (h.whole ∙ ap (λ (x : List Line). h.front ++ x) table.whole ∙ sym (append_assoc h.front table.front table.back));
      first = first;
      is = record { header_lines = line ∷ h.front; table_lines = table.front; whole = refl; three = omega (arith, h.first); is = table.first };
      none = refl;
      blanks = blanks.is;
    } in
    subst (IsQueryFile (line ∷ lines)) (sym blanks.seen) (inr made)

-- what the parts make up is a query file
to_query : (lines : List Line) (query : RawQuery) → query_part.is lines query → IsQueryFile lines query
to_query lines query h =
    let first : begins_mdl h.first.line ≡ h.middle = (let s = h.first.spells in cc) in
    let whole : lines ≡ h.first.line ∷ h.back = h.whole ∙ ap (λ (x : List Line). x ++ h.back) h.first.whole in
    subst (λ (x : List Line). IsQueryFile x query) (sym whole) (to_query_at h.middle h.first.line h.back query first h.second)

-- the parts of an RGfile
from_rgfile : (lines : List Line) (query : RawQuery) → IsRgfile lines query → query_part.is lines query
from_rgfile lines query h =
    let head = h.head in
    let blanks = h.last_line ∷ h.blank_lines in
    let groups = h.group_lines ++ blanks in
    let root = h.root_lines ++ groups in
    record {
      front = head.first_line ∷ [];
      back = behind_mdl head ++ root;
      middle = true;
      whole = h.whole ∙ ap (λ (x : List Line). x ++ root) head.whole;
      first = record { line = head.first_line; whole = refl; spells = ap Some head.first };
      second = record {
        front = behind_mdl head;
        back = root;
        middle = tt;
        whole = refl;
        first = from_head h.head_lines head;
        second = record {
          front = h.root_lines;
          back = groups;
          middle = query.root;
          whole = refl;
          first = h.root;
          second = record {
            front = h.group_lines ++ h.last_line ∷ [];
            back = h.blank_lines;
            middle = query.groups;
            whole = sym (append_assoc h.group_lines (h.last_line ∷ []) h.blank_lines);
            first = record {
              first = (query.groups, tt);
              is = record { front = h.group_lines; back = h.last_line ∷ []; whole = refl; items = h.groups; last = keyword_line (codes "$END MOL") h.last_line h.last };
              seen = refl;
            };
            second = record { first = tt; is = h.blanks; seen = refl };
          };
        };
      };
    }

-- and of a molfile, by its header lines
from_molfile_at : (lines header_lines table_lines blank_lines : List Line) (root : RawTable)
    → lines ≡ (header_lines ++ table_lines) ++ blank_lines → length header_lines ≡ 3
    → FirstIs begins_mdl false (header_lines ++ table_lines) → IsTable table_lines root → AreBlankLines blank_lines
    → query_part.is lines (query_with root [])
from_molfile_at lines [] table_lines blank_lines root whole three first table blanks = absurd (omega arith)
from_molfile_at lines (line ∷ others) table_lines blank_lines root whole three first table blanks = record {
  front = line ∷ [];
  back = others ++ (table_lines ++ blank_lines);
  middle = false;
  whole = whole ∙ ap (before line) (append_assoc others table_lines blank_lines);
  first = record { line = line; whole = refl; spells = ap Some first };
  second = record {
    front = others;
    back = table_lines ++ blank_lines;
    middle = tt;
    whole = refl;
    first = omega arith;
    second = record { front = table_lines; back = blank_lines; middle = root; whole = refl; first = table; second = record { first = tt; is = blanks; seen = refl } };
  };
}

from_molfile : (lines : List Line) (query : RawQuery) → IsMolfileQuery lines query → query_part.is lines query
from_molfile lines query h =
    let m = h.is in
    let whole = h.whole ∙ ap (λ (x : List Line). x ++ h.blank_lines) m.whole in
    let made = from_molfile_at lines m.header_lines m.table_lines h.blank_lines query.root whole m.three (subst (FirstIs begins_mdl false) m.whole h.first) m.is h.blanks in
    subst (λ (groups : List RawGroup). query_part.is lines (query_with query.root groups)) (sym h.none) made

from_query : (lines : List Line) (query : RawQuery) → IsQueryFile lines query → query_part.is lines query
from_query lines query h = elim h [ inl h ↦ from_rgfile lines query h | inr h ↦ from_molfile lines query h ]

-- ---- where a counts line is due

never-head_part : NeverDue head_part
never-head_part =
    never-sequence (never-line _) (λ _.
    never-sequence (never-line _) (λ _.
    never-sequence (never-any_lines 3) (λ _.
    never-line _)))

-- by the first line
due_to_at : (is_mdl : Bool) (line : Line) (lines : List Line) → begins_mdl line ≡ is_mdl → (behind_first is_mdl).due lines → IsCountsDue (line ∷ lines)
due_to_at true line lines first d = elim d [
  | inl d ↦ absurd (never-head_part.never lines d)
  | inr d ↦
      let head = to_head line d.front d.middle first d.first in
      elim d.second [
        | inl k ↦ inr (inl (record { head_lines = line ∷ d.front; table_line = k.line; whole = ap (before line) (d.whole ∙ ap (λ (x : List Line). d.front ++ x) k.whole); head = head; table = k.is }))
        | inr r ↦ elim r.second [
          | inl u ↦ elim u.last [
            | inl k ↦ inr (inr (record {
              head_lines = line ∷ d.front;
              root_lines = r.front;
              group_lines = u.front;
              due_lines = u.back;
              root = r.middle;
              before = u.values;
              whole = ap (before line) (d.whole ∙ ap (λ (x : List Line). d.front ++ x) (r.whole ∙ ap (λ (x : List Line). r.front ++ x) u.whole));
              head = head;
              root_is = r.first;
              groups = u.items;
              due = k;
            }))
            | inr e ↦ absurd e
          ]
          | inr e ↦ absurd e.second
        ]
      ]
]
due_to_at false line lines first d = elim d [
  | inl d ↦ absurd d
  | inr d ↦ elim d.second [
    | inl none ↦ inl (record { first = first; three = omega (arith, d.first, ap length d.whole, length-append d.front d.back, ap length none) })
    | inr e ↦ absurd e.second
  ]
]

due_to : (lines : List Line) → query_part.due lines → IsCountsDue lines
due_to lines d = elim d [
  | inl d ↦ absurd d
  | inr d ↦
      let first : begins_mdl d.first.line ≡ d.middle = (let s = d.first.spells in cc) in
      let whole : lines ≡ d.first.line ∷ d.back = d.whole ∙ ap (λ (x : List Line). x ++ d.back) d.first.whole in
      subst IsCountsDue (sym whole) (due_to_at d.middle d.first.line d.back first d.second)
]

-- and only there: behind the header of a molfile
molfile_due : (lines : List Line) → FirstIs begins_mdl false lines → length lines ≡ 3 → query_part.due lines
molfile_due [] first three = absurd first
molfile_due (line ∷ others) first three = inr (record {
  front = line ∷ [];
  back = others;
  middle = false;
  whole = refl;
  first = record { line = line; whole = refl; spells = ap Some first };
  second = inr (record { front = others; back = []; middle = tt; whole = sym (append-nil others); first = omega arith; second = inl refl });
})

-- what is due behind a head
head_due : (lines head_lines others : List Line) (head : IsHead head_lines) → lines ≡ head_lines ++ others → behind_head.due others → query_part.due lines
head_due lines head_lines others head whole due = inr (record {
  front = head.first_line ∷ [];
  back = behind_mdl head ++ others;
  middle = true;
  whole = whole ∙ ap (λ (x : List Line). x ++ others) head.whole;
  first = record { line = head.first_line; whole = refl; spells = ap Some head.first };
  second = inr (record { front = behind_mdl head; back = others; middle = tt; whole = refl; first = from_head head_lines head; second = due });
})

-- the root of an RGfile
root_due : (lines : List Line) → IsHeadToTable lines → query_part.due lines
root_due lines d = head_due lines d.head_lines (d.table_line ∷ []) d.head d.whole (inl (record { line = d.table_line; whole = refl; is = d.table }))

-- a member of a group
member_due : (lines : List Line) → IsRgfileToMember lines → query_part.due lines
member_due lines d =
    head_due lines d.head_lines (d.root_lines ++ (d.group_lines ++ d.due_lines)) d.head d.whole
    (inr (record {
      front = d.root_lines;
      back = d.group_lines ++ d.due_lines;
      middle = d.root;
      whole = refl;
      first = d.root_is;
      second = inl (record { values = d.before; front = d.group_lines; back = d.due_lines; whole = refl; items = d.groups; last = inl d.due });
    }))

due_from : (lines : List Line) → IsCountsDue lines → query_part.due lines
due_from lines d = elim d [ inl d ↦ molfile_due lines d.first d.three | inr d ↦ elim d [ inl d ↦ root_due lines d | inr d ↦ member_due lines d ] ]

-- ---- the form

-- The form of query files.
abbrev pub query_file : Part Line RawQuery
query_file = form IsQueryFile IsCountsDue query_at

-- they are read exactly
pub exact-query_file : Exact is_v3000 NoLines query_file
unfolding query_at
exact-query_file = exact-form exact-query_part completes-query_part (record { is_to = to_query; is_from = from_query; due_to = due_to; due_from = due_from })
