-- What the readers of a query file know that go through its lines by an index.
use Rattle.std.proofs.Common.{◌≡◌, ℕ, ◌+◌, ◌-◌, ◌≤◌, ◌<◌, true, false, List, [], ◌∷◌, ◌++◌, length, get_or, drop, refl, sym, ap, subst, ◌∙◌, arith}
use Rattle.std.specs.Prelude.{codes}
use Rattle.std.proofs.lemmas.List.{drop_more, drop_all}
use Rattle.mk_form.specs.Lines.{passing}
use Rattle.mk_form.specs.Reading.{Reading, Took, Stop, and_then, TakesLines, StopsAtLine}
use Rattle.mk_form.specs.ToEnd.{read_all}
use Rattle.mk_form.proofs.ByIndex.{line_yes, stops_first, takes_first}
use Rattle.mk_form.proofs.Lines.{does_pass}
use Rattle.mk_form.proofs.UntilLoops.{UntilLeft, until_left_start, until_left_item, until_left_past, until_left_end}
use Rattle.mk_text.specs.declared.cutting.Span.{Span}
use Rattle.mk_text.specs.Columns.{are_blank}
use Rattle.mk_text.specs.Lines.{lines_of}
use Rattle.mk_text.specs.LineStart.{BeginLines}
use Rattle.mk_text.specs.Spans.{AreWithin, parts}
use Rattle.mk_text.proofs.ForCallers.{parts_length}
use Rattle.mk_tables.specs.declared.fault.TableFault.{TableFault}
use Rattle.mk_tables.specs.declared.raw.RawTable.{RawTable}
use Rattle.mk_tables.specs.TableLines.{Line}
use Rattle.mk_tables.specs.TableReading.{Fails}
use Rattle.mk_tables.proofs.ForCallers.{fails_first, until_fails}
use Rattle.mk_rgfile.specs.declared.raw_query.RawGroup.{RawGroup}
use Rattle.mk_rgfile.specs.QueryLines.{is_keyword}
use Rattle.mk_rgfile.specs.QueryReading.{keyword, block_at, table_block, further_part, members_with, behind_member, members_part, group_at, group_form, groups_to_end, groups_in, groups_part, AreLines}
use Rattle.mk_rgfile.proofs.QueryPartLemmas.{exact-keyword, exact-table_block, shows-table_block, shows-keyword, exact-group_form, shows-group_form}

-- ---- the lines of a text by their places

pub are_lines : (text : List ℕ) (spans : List Span) → parts text spans ≡ lines_of text → AreWithin text spans → BeginLines text spans → AreLines text spans
are_lines text spans are within starts = record { are = are; within = within; starts = starts; count = sym (parts_length text spans) ∙ ap length are }

-- ---- blank lines to the end

-- ---- a keyword that ends parts

-- it is read
keyword_read : (word : List ℕ) (lines : List Line) (at : ℕ) → at < length lines → is_keyword word (get_or lines at []) ≡ true → TakesLines lines (at + 1) tt ((keyword word).read (drop at lines))
keyword_read word lines at lt h = line_yes (λ _. false) (passing (is_keyword word)) lines at [] tt lt (does_pass (is_keyword word) (get_or lines at []) h)

-- ---- the members of a group

-- Of the members from the line of index `from` on these are read, one or more, and the next line is that of index `at`.
pub record MembersLeft (lines : List Line) (from : ℕ) (members : List RawTable) (at : ℕ) : Type 0 where
  pub behind : ℕ
  pub first : RawTable
  pub others : List RawTable
  pub are : members ≡ first ∷ others
  pub ahead : from < at
  pub read : TakesLines lines behind first (block_at (drop from lines))
  pub left : UntilLeft (is_keyword (codes "$END RGP")) table_block (keyword (codes "$END RGP")) lines behind others at

module _ (lines : List Line) (from : ℕ) where
  -- the first is read
  pub members_start : (first : RawTable) (next : ℕ) → from < next → TakesLines lines next first (block_at (drop from lines)) → MembersLeft lines from (first ∷ []) next
  members_start first next lt takes = record {
    behind = next;
    first = first;
    others = [];
    are = refl;
    ahead = lt;
    read = takes;
    left = until_left_start exact-table_block (exact-keyword (codes "$END RGP")) shows-table_block (shows-keyword (codes "$END RGP")) lines next takes.within;
  }

  -- the first fails
  pub members_fail_first : (fault : TableFault) → Fails lines fault (block_at (drop from lines)) → Fails lines fault (members_part.read (drop from lines))
  members_fail_first fault h = fails_first lines fault (block_at (drop from lines)) (λ first. (behind_member first).read) h

  module _ (members : List RawTable) (at : ℕ) (so_far : MembersLeft lines from members at) where
    -- what is left of them
    whole : members_part.read (drop from lines) ≡ and_then (further_part.read (drop so_far.behind lines)) (λ v. Took (members_with so_far.first v))
    whole = takes_first lines so_far.behind so_far.first (block_at (drop from lines)) (λ first. (behind_member first).read) so_far.read

    -- no line is left
    pub members_past : at ≡ length lines → StopsAtLine lines false (at + 1) (members_part.read (drop from lines))
    members_past last =
        let stop = until_left_past exact-table_block (exact-keyword (codes "$END RGP")) shows-table_block (shows-keyword (codes "$END RGP")) lines so_far.behind so_far.others at last so_far.left in
        subst (StopsAtLine lines false (at + 1)) (sym whole) (stops_first lines false (at + 1) (further_part.read (drop so_far.behind lines)) (λ v. Took (members_with so_far.first v)) stop)

    module _ (lt : at < length lines) where
      -- one more is read
      pub members_more : (member : RawTable) (next : ℕ) → is_keyword (codes "$END RGP") (get_or lines at []) ≡ false
          → at < next → TakesLines lines next member (block_at (drop at lines))
          → MembersLeft lines from (members ++ member ∷ []) next
      members_more member next goes ahead takes = record {
        behind = so_far.behind;
        first = so_far.first;
        others = so_far.others ++ member ∷ [];
        are = ap (λ (ts : List RawTable). ts ++ member ∷ []) so_far.are;
        ahead = omega (arith, so_far.ahead);
        read = so_far.read;
        left = until_left_item exact-table_block (exact-keyword (codes "$END RGP")) shows-table_block
            (shows-keyword (codes "$END RGP")) lines so_far.behind so_far.others at next [] member lt goes so_far.left
            takes;
      }

      -- one more fails
      pub members_fail : (fault : TableFault) → is_keyword (codes "$END RGP") (get_or lines at []) ≡ false
          → Fails lines fault (block_at (drop at lines)) → Fails lines fault (members_part.read (drop from lines))
      members_fail fault goes h =
          let fails = until_fails exact-table_block (exact-keyword (codes "$END RGP")) shows-table_block
          (shows-keyword (codes "$END RGP")) lines so_far.behind so_far.others at [] fault lt goes so_far.left h in
          subst (Fails lines fault) (sym whole) (fails_first lines fault (further_part.read (drop so_far.behind lines)) (λ v. Took (members_with so_far.first v)) fails)

      -- the end
      pub members_end : is_keyword (codes "$END RGP") (get_or lines at []) ≡ true → TakesLines lines (at + 1) members (members_part.read (drop from lines))
      members_end ends =
          let last = keyword_read (codes "$END RGP") lines at lt ends in
          let all = until_left_end exact-table_block (exact-keyword (codes "$END RGP")) shows-table_block
          (shows-keyword (codes "$END RGP")) lines so_far.behind so_far.others at (at + 1) [] tt lt ends so_far.left
          last in
          record {
            within = all.within;
            took = whole ∙ takes_first lines (at + 1) (so_far.others, tt) (further_part.read (drop so_far.behind lines))
                (λ v. Took (members_with so_far.first v)) all
                ∙ ap (λ (ts : List RawTable). Took ts (drop (at + 1) lines)) (sym so_far.are);
          }

-- ---- groups

-- Of the groups from the line of index `from` on these are read, and the next line is that of index `at`.
abbrev pub GroupsLeft : List Line → ℕ → List RawGroup → ℕ → Type 0
GroupsLeft lines from groups at = UntilLeft (is_keyword (codes "$END MOL")) group_form (keyword (codes "$END MOL")) lines from groups at

module _ (lines : List Line) (from : ℕ) where
  -- before the first
  pub groups_start : from ≤ length lines → GroupsLeft lines from [] from
  groups_start le = until_left_start exact-group_form (exact-keyword (codes "$END MOL")) shows-group_form (shows-keyword (codes "$END MOL")) lines from le

  module _ (groups : List RawGroup) (at : ℕ) (so_far : GroupsLeft lines from groups at) where
    -- no line is left
    pub groups_past : at ≡ length lines → StopsAtLine lines false (at + 1) (groups_part.read (drop from lines))
    groups_past last =
        stops_first lines false (at + 1) (groups_to_end.read (drop from lines)) (λ v. Took (groups_in v))
        (until_left_past exact-group_form (exact-keyword (codes "$END MOL")) shows-group_form (shows-keyword (codes "$END MOL")) lines from groups at last so_far)

    module _ (lt : at < length lines) where
      -- one more is read
      pub groups_more : (group : RawGroup) (next : ℕ) → is_keyword (codes "$END MOL") (get_or lines at []) ≡ false
          → TakesLines lines next group (group_at (drop at lines)) → GroupsLeft lines from (groups ++ group ∷ []) next
      groups_more group next goes takes = until_left_item exact-group_form (exact-keyword (codes "$END MOL"))
          shows-group_form (shows-keyword (codes "$END MOL")) lines from groups at next [] group lt goes so_far takes

      -- one more fails
      pub groups_fail : (fault : TableFault) → is_keyword (codes "$END MOL") (get_or lines at []) ≡ false
          → Fails lines fault (group_at (drop at lines)) → Fails lines fault (groups_part.read (drop from lines))
      groups_fail fault goes h =
          fails_first lines fault (groups_to_end.read (drop from lines)) (λ v. Took (groups_in v))
          (until_fails exact-group_form (exact-keyword (codes "$END MOL")) shows-group_form (shows-keyword (codes "$END MOL")) lines from groups at [] fault lt goes so_far h)

      -- the end
      pub groups_end : is_keyword (codes "$END MOL") (get_or lines at []) ≡ true → TakesLines lines (at + 1) groups (groups_part.read (drop from lines))
      groups_end ends =
          let last = keyword_read (codes "$END MOL") lines at lt ends in
          let all = until_left_end exact-group_form (exact-keyword (codes "$END MOL")) shows-group_form (shows-keyword (codes "$END MOL")) lines from groups at (at + 1) [] tt lt ends so_far last in
          record { within = all.within; took = takes_first lines (at + 1) (groups, tt) (groups_to_end.read (drop from lines)) (λ v. Took (groups_in v)) all }
