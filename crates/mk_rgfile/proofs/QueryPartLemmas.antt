-- The parts of a query file are read exactly: tables between their keywords, and groups.
use Rattle.std.proofs.Common.{◌≡◌, ℕ, Bool, true, false, Some, List, [], ◌∷◌, ◌++◌, refl, sym, ap, subst, ◌∙◌, append_assoc, inl, inr, arith}
use Rattle.std.specs.Prelude.{codes}
use Rattle.std.proofs.lemmas.List.{append-nil}
use Rattle.mk_form.specs.Choice.{FirstIs, Shows}
use Rattle.mk_form.specs.Exact.{Exact, Completes, Anything}
use Rattle.mk_form.specs.Rows.{Series}
use Rattle.mk_form.proofs.Choice.{shows-form, shows-line_where}
use Rattle.mk_form.proofs.Fronts.{exact-form, completes-form, completes-line, completes-line_where, completes-seen_as, completes-sequence, completes-until}
use Rattle.mk_form.proofs.Lines.{exact-line, exact-line_where, passes, does_pass}
use Rattle.mk_form.proofs.Seen.{exact-seen_as}
use Rattle.mk_form.proofs.Sequence.{exact-sequence}
use Rattle.mk_form.proofs.Until.{exact-until}
use Rattle.mk_text.specs.Fields.{digits_number}
use Rattle.mk_tables.specs.declared.raw.RawTable.{RawTable}
use Rattle.mk_tables.specs.TableLines.{Line, is_v3000}
use Rattle.mk_tables.proofs.ForCallers.{exact-table}
use Rattle.mk_rgfile.specs.declared.raw_query.RawGroup.{RawGroup}
use Rattle.mk_rgfile.specs.QueryLines.{is_keyword, group_number_of}
use Rattle.mk_rgfile.specs.QueryFile.{IsTableBlock, IsGroup, IsKeywordLine, IsGroupToTable}
use Rattle.mk_rgfile.specs.QueryReading.{keyword, block_part, block_at, table_block, further_part, members_with, members_part, group_with, group_part, group_at, group_form, groups_to_end}
use Rattle.mk_rgfile.proofs.QueryLineLemmas.{ctab_no_end, rgp_no_end, number_found, number_given}

-- ---- a keyword

-- one line that is the keyword
pub keyword_line : (word : List ℕ) (line : Line) → is_keyword word line ≡ true → (keyword word).is (line ∷ []) tt
keyword_line word line h = record { line = line; whole = refl; spells = does_pass (is_keyword word) line h }

-- it is read exactly
pub exact-keyword : (word : List ℕ) → Exact is_v3000 Anything (keyword word)
exact-keyword word = exact-line_where (is_keyword word)

-- ---- a table between its keywords

exact-block_part : Exact is_v3000 Anything block_part
exact-block_part = exact-sequence (exact-keyword (codes "$CTAB")) (λ _. exact-sequence exact-table (λ table. exact-seen_as (λ _. table) (exact-keyword (codes "$END CTAB"))))

completes-block_part : Completes block_part
completes-block_part =
    completes-sequence (completes-line_where (is_keyword (codes "$CTAB")) (codes "$CTAB") refl) (λ _.
    completes-sequence (completes-form exact-table) (λ table.
    completes-seen_as (λ _. table) (completes-line_where (is_keyword (codes "$END CTAB")) (codes "$END CTAB") refl)))

-- what the parts make up
to_block : (lines : List Line) (table : RawTable) → block_part.is lines table → IsTableBlock lines table
to_block lines table h =
    let t = h.second in
    let e = t.second in
    let made : IsTableBlock lines t.middle = record {
      open_line = h.first.line;
      table_lines = t.front;
      close_line = e.is.line;
      whole = h.whole ∙ ap (λ (x : List Line). x ++ h.back) h.first.whole ∙ ap (λ (x : List Line). h.first.line ∷ x) (t.whole ∙ ap (λ (x : List Line). t.front ++ x) e.is.whole);
      opens = passes (is_keyword (codes "$CTAB")) h.first.line h.middle h.first.spells;
      is = t.first;
      closes = passes (is_keyword (codes "$END CTAB")) e.is.line e.first e.is.spells;
    } in
    subst (IsTableBlock lines) (sym e.seen) made

-- and the other way
from_block : (lines : List Line) (table : RawTable) → IsTableBlock lines table → block_part.is lines table
from_block lines table h = record {
  front = h.open_line ∷ [];
  back = h.table_lines ++ h.close_line ∷ [];
  middle = tt;
  whole = h.whole;
  first = keyword_line (codes "$CTAB") h.open_line h.opens;
  second = record {
    front = h.table_lines;
    back = h.close_line ∷ [];
    middle = table;
    whole = refl;
    first = h.is;
    second = record { first = tt; is = keyword_line (codes "$END CTAB") h.close_line h.closes; seen = refl };
  };
}

-- a counts line is due behind `$CTAB`
block_due_to : (lines : List Line) → block_part.due lines → IsKeywordLine (codes "$CTAB") lines
block_due_to lines d = elim d [
  | inl d ↦ absurd d
  | inr d ↦ elim d.second [
    | inl none ↦ record {
      line = d.first.line;
      whole = d.whole ∙ ap (λ (x : List Line). d.front ++ x) none ∙ append-nil d.front ∙ d.first.whole;
      is = passes (is_keyword (codes "$CTAB")) d.first.line d.middle d.first.spells;
    }
    | inr e ↦ absurd e.second
  ]
]

block_due_from : (lines : List Line) → IsKeywordLine (codes "$CTAB") lines → block_part.due lines
block_due_from lines d = inr (record { front = d.line ∷ []; back = []; middle = tt; whole = d.whole; first = keyword_line (codes "$CTAB") d.line d.is; second = inl refl })

-- tables between their keywords are read exactly
pub exact-table_block : Exact is_v3000 Anything table_block
unfolding block_at
exact-table_block = exact-form exact-block_part completes-block_part (record { is_to = to_block; is_from = from_block; due_to = block_due_to; due_from = block_due_from })

-- what a first line is, is known of the lines
first_is : (b : Line → Bool) (t : Bool) (lines : List Line) (line : Line) (others : List Line) → lines ≡ line ∷ others → b line ≡ t → FirstIs b t lines
first_is b t lines line others whole h = subst (FirstIs b t) (sym whole) h

-- their first line ends no group
pub shows-table_block : Shows (is_keyword (codes "$END RGP")) false table_block
shows-table_block =
    shows-form (is_keyword (codes "$END RGP")) false IsTableBlock (IsKeywordLine (codes "$CTAB")) block_at
    (λ lines table h. first_is (is_keyword (codes "$END RGP")) false lines h.open_line (h.table_lines ++ h.close_line ∷ []) h.whole (ctab_no_end h.open_line h.opens))
    (λ lines d. first_is (is_keyword (codes "$END RGP")) false lines d.line [] d.whole (ctab_no_end d.line d.is))

-- and a keyword shows itself
pub shows-keyword : (word : List ℕ) → Shows (is_keyword word) true (keyword word)
shows-keyword word = shows-line_where (is_keyword word) true (is_keyword word) (λ line h. h)

-- ---- a group

exact-further_part : Exact is_v3000 Anything further_part
exact-further_part = exact-until exact-table_block (exact-keyword (codes "$END RGP")) shows-table_block (shows-keyword (codes "$END RGP"))

exact-group_part : Exact is_v3000 Anything group_part
exact-group_part =
    exact-sequence (exact-keyword (codes "$RGP")) (λ _.
    exact-sequence (exact-line group_number_of) (λ number.
    exact-seen_as (group_with number) (exact-sequence exact-table_block (λ first. exact-seen_as (members_with first) exact-further_part))))

-- the line `1` is a number
one_is_number : group_number_of (codes "1") ≡ Some 1
unfolding group_number_of digits_number
one_is_number = refl

completes-further_part : Completes further_part
completes-further_part = completes-until (is_keyword (codes "$END RGP")) (completes-form exact-table_block) (completes-line_where (is_keyword (codes "$END RGP")) (codes "$END RGP") refl)

completes-group_part : Completes group_part
completes-group_part =
    completes-sequence (completes-line_where (is_keyword (codes "$RGP")) (codes "$RGP") refl) (λ _.
    completes-sequence (completes-line group_number_of (codes "1") 1 one_is_number) (λ number.
    completes-seen_as (group_with number) (completes-sequence (completes-form exact-table_block) (λ first. completes-seen_as (members_with first) completes-further_part))))

-- what the parts make up
to_group : (lines : List Line) (group : RawGroup) → group_part.is lines group → IsGroup lines group
to_group lines group h =
    let n = h.second in
    let seen = n.second in
    let first = seen.is in
    let further = first.second.is in
    let end = further.last in
    let first_is : first.back ≡ further.front ++ end.line ∷ [] = further.whole ∙ ap (λ (x : List Line). further.front ++ x) end.whole in
    let members_are : n.back ≡ (first.front ++ further.front) ++ end.line ∷ [] = first.whole
    ∙ ap (λ (x : List Line). first.front ++ x) first_is
    ∙ sym (append_assoc first.front further.front (end.line ∷ [])) in
    let number_is : h.back ≡ n.first.line ∷ ((first.front ++ further.front) ++ end.line ∷ []) = n.whole
    ∙ ap (λ (x : List Line). x ++ n.back) n.first.whole ∙ ap (λ (x : List Line). n.first.line ∷ x) members_are in
    let members = members_with first.middle first.second.first in
    let made : IsGroup lines (group_with n.middle members) = record {
      open_line = h.first.line;
      number_line = n.first.line;
      member_lines = first.front ++ further.front;
      close_line = end.line;
      whole = h.whole ∙ ap (λ (x : List Line). x ++ h.back) h.first.whole ∙ ap (λ (x : List Line). h.first.line ∷ x) number_is;
      opens = passes (is_keyword (codes "$RGP")) h.first.line h.middle h.first.spells;
      number = number_found n.first.line n.middle n.first.spells;
      members = (first.front, further.front, refl, first.first, further.items);
      some = omega arith;
      closes = passes (is_keyword (codes "$END RGP")) end.line first.second.first.1 end.spells;
    } in
    subst (IsGroup lines) (sym (seen.seen ∙ ap (group_with n.middle) first.second.seen)) made

-- and the other way, by the members
from_group_at : (lines : List Line) (number : ℕ) (members : List RawTable) → IsGroup lines (group_with number members) → group_part.is lines (group_with number members)
from_group_at lines number [] h = absurd (let none = h.some in omega arith)
from_group_at lines number (first ∷ others) h =
    let i = h.members in
    let last = h.close_line ∷ [] in
    record {
      front = h.open_line ∷ [];
      back = h.number_line ∷ (h.member_lines ++ last);
      middle = tt;
      whole = h.whole;
      first = keyword_line (codes "$RGP") h.open_line h.opens;
      second = record {
        front = h.number_line ∷ [];
        back = h.member_lines ++ last;
        middle = number;
        whole = refl;
        first = record { line = h.number_line; whole = refl; spells = number_given h.number_line number h.number };
        second = record {
          first = first ∷ others;
          is = record {
            front = i.0;
            back = i.1 ++ last;
            middle = first;
            whole = ap (λ (x : List Line). x ++ last) i.2 ∙ append_assoc i.0 i.1 last;
            first = i.3;
            second = record {
              first = (others, tt);
              is = record { front = i.1; back = last; whole = refl; items = i.4; last = keyword_line (codes "$END RGP") h.close_line h.closes };
              seen = refl;
            };
          };
          seen = refl;
        };
      };
    }

from_group : (lines : List Line) (group : RawGroup) → IsGroup lines group → group_part.is lines group
from_group lines group h = from_group_at lines group.number group.members h

-- a counts line is due behind the `$CTAB` of a member
group_due_to : (lines : List Line) → group_part.due lines → IsGroupToTable lines
group_due_to lines d = elim d [
  | inl d ↦ absurd d
  | inr d ↦
      let n = d.second in
      elim n [
        | inl e ↦ absurd e
        | inr n ↦
            let numbered : (others : List Line) → n.back ≡ others → lines ≡ d.first.line ∷ n.first.line ∷ others =
            λ others e. d.whole ∙ ap (λ (x : List Line). x ++ d.back) d.first.whole
            ∙ ap (λ (x : List Line). d.first.line ∷ x)
            (n.whole ∙ ap (λ (x : List Line). x ++ n.back) n.first.whole
            ∙ ap (λ (x : List Line). n.first.line ∷ x) e) in
            elim n.second [
              | inl k ↦ record {
                open_line = d.first.line;
                number_line = n.first.line;
                member_lines = [];
                table_line = k.line;
                number = n.middle;
                before = [];
                whole = numbered (k.line ∷ []) k.whole;
                opens = passes (is_keyword (codes "$RGP")) d.first.line d.middle d.first.spells;
                number_is = number_found n.first.line n.middle n.first.spells;
                members = refl;
                table = k.is;
              }
              | inr m ↦
                  let u = m.second in
                  elim u.last [
                    | inl k ↦ record {
                      open_line = d.first.line;
                      number_line = n.first.line;
                      member_lines = m.front ++ u.front;
                      table_line = k.line;
                      number = n.middle;
                      before = m.middle ∷ u.values;
                      whole = numbered ((m.front ++ u.front) ++ k.line ∷ [])
                          (m.whole ∙ ap (λ (x : List Line). m.front ++ x)
                          (u.whole ∙ ap (λ (x : List Line). u.front ++ x) k.whole)
                          ∙ sym (append_assoc m.front u.front (k.line ∷ [])));
                      opens = passes (is_keyword (codes "$RGP")) d.first.line d.middle d.first.spells;
                      number_is = number_found n.first.line n.middle n.first.spells;
                      members = (m.front, u.front, refl, m.first, u.items);
                      table = k.is;
                    }
                    | inr e ↦ absurd e
                  ]
            ]
      ]
]

-- and only there, by the members before it
members_due : (lines : List Line) (table_line : Line) (before : List RawTable) → Series IsTableBlock lines before
    → is_keyword (codes "$CTAB") table_line ≡ true → members_part.due (lines ++ table_line ∷ [])
members_due lines table_line [] none h = inl (record { line = table_line; whole = ap (λ (x : List Line). x ++ table_line ∷ []) none; is = h })
members_due lines table_line (first ∷ others) i h = inr (record {
  front = i.0;
  back = i.1 ++ table_line ∷ [];
  middle = first;
  whole = ap (λ (x : List Line). x ++ table_line ∷ []) i.2 ∙ append_assoc i.0 i.1 (table_line ∷ []);
  first = i.3;
  second = record { values = others; front = i.1; back = table_line ∷ []; whole = refl; items = i.4; last = inl (record { line = table_line; whole = refl; is = h }) };
})

group_due_from : (lines : List Line) → IsGroupToTable lines → group_part.due lines
group_due_from lines d =
    let last = d.table_line ∷ [] in
    inr (record {
      front = d.open_line ∷ [];
      back = d.number_line ∷ (d.member_lines ++ last);
      middle = tt;
      whole = d.whole;
      first = keyword_line (codes "$RGP") d.open_line d.opens;
      second = inr (record {
        front = d.number_line ∷ [];
        back = d.member_lines ++ last;
        middle = d.number;
        whole = refl;
        first = record { line = d.number_line; whole = refl; spells = number_given d.number_line d.number d.number_is };
        second = members_due d.member_lines d.table_line d.before d.members d.table;
      });
    })

-- groups are read exactly
pub exact-group_form : Exact is_v3000 Anything group_form
unfolding group_at
exact-group_form = exact-form exact-group_part completes-group_part (record { is_to = to_group; is_from = from_group; due_to = group_due_to; due_from = group_due_from })

-- their first line ends no molecule
pub shows-group_form : Shows (is_keyword (codes "$END MOL")) false group_form
shows-group_form =
    shows-form (is_keyword (codes "$END MOL")) false IsGroup IsGroupToTable group_at
    (λ lines group h. first_is (is_keyword (codes "$END MOL")) false lines h.open_line (h.number_line ∷ (h.member_lines ++ h.close_line ∷ [])) h.whole (rgp_no_end h.open_line h.opens))
    (λ lines d. first_is (is_keyword (codes "$END MOL")) false lines d.open_line (d.number_line ∷ (d.member_lines ++ d.table_line ∷ [])) d.whole (rgp_no_end d.open_line d.opens))

-- and so are groups up to `$END MOL`
pub exact-groups_to_end : Exact is_v3000 Anything groups_to_end
exact-groups_to_end = exact-until exact-group_form (exact-keyword (codes "$END MOL")) shows-group_form (shows-keyword (codes "$END MOL"))

pub completes-groups_to_end : Completes groups_to_end
completes-groups_to_end = completes-until (is_keyword (codes "$END MOL")) (completes-form exact-group_form) (completes-line_where (is_keyword (codes "$END MOL")) (codes "$END MOL") refl)
