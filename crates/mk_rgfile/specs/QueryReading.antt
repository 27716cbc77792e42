-- A query file by its parts, read from the left. It serves the code and the proofs alone.
--     query_part                       the composed part
--     query_at lines                   what reading the lines to the last gives
--     AreLines text spans              the places are those of the lines of the text
use Rattle.std.specs.Prelude.{◌≡◌, ℕ, Bool, true, false, List, [], ◌∷◌, length, Option, Some, codes}
use Rattle.mk_form.specs.Exact.{Part}
use Rattle.mk_form.specs.InWords.{form}
use Rattle.mk_form.specs.Lines.{line, line_where}
use Rattle.mk_form.specs.Reading.{Reading}
use Rattle.mk_form.specs.Rows.{any_lines}
use Rattle.mk_form.specs.Seen.{seen_as}
use Rattle.mk_form.specs.Sequence.{sequence}
use Rattle.mk_form.specs.ToEnd.{lines_to_end}
use Rattle.mk_form.specs.Until.{until}
use Rattle.mk_text.specs.declared.cutting.Span.{Span}
use Rattle.mk_text.specs.Columns.{are_blank}
use Rattle.mk_text.specs.Lines.{lines_of}
use Rattle.mk_text.specs.LineStart.{BeginLines}
use Rattle.mk_text.specs.Spans.{AreWithin, parts}
use Rattle.mk_tables.specs.declared.raw.RawTable.{RawTable}
use Rattle.mk_tables.specs.TableLaws.{table_form}
use Rattle.mk_tables.specs.TableLines.{Line}
use Rattle.mk_rgfile.specs.declared.raw_query.RawGroup.{RawGroup}
use Rattle.mk_rgfile.specs.declared.raw_query.RawQuery.{RawQuery}
use Rattle.mk_rgfile.specs.QueryLines.{begins_mdl, is_keyword, group_number_of}
use Rattle.mk_rgfile.specs.QueryFile.{IsTableBlock, IsGroup, IsKeywordLine, IsGroupToTable}

-- a line that is the keyword
abbrev pub keyword : List ℕ → Part Line (Unit {0})
keyword word = line_where (is_keyword word)

-- ---- a table between its keywords

-- the `$END CTAB` behind a table, which is the value
abbrev pub behind_table : RawTable → Part Line RawTable
behind_table table = seen_as (λ _. table) (keyword (codes "$END CTAB"))

-- a table and its `$END CTAB`
abbrev pub behind_ctab : Part Line RawTable
behind_ctab = sequence table_form behind_table

-- `$CTAB`, a table, `$END CTAB`
abbrev pub block_part : Part Line RawTable
block_part = sequence (keyword (codes "$CTAB")) (λ _. behind_ctab)

-- what reading a table between its keywords from the first of the lines on gives
unfoldable pub block_at : List Line → Reading Line RawTable
block_at = block_part.read

-- the form of a table between its keywords; a counts line is due behind `$CTAB`
abbrev pub table_block : Part Line RawTable
table_block = form IsTableBlock (IsKeywordLine (codes "$CTAB")) block_at

-- ---- a group

-- further members, up to `$END RGP`
abbrev pub further_part : Part Line (List RawTable × Unit {0})
further_part = until (is_keyword (codes "$END RGP")) table_block (keyword (codes "$END RGP"))

-- the first member and the further ones
abbrev pub members_with : RawTable → List RawTable × Unit {0} → List RawTable
members_with first further = first ∷ further.0

-- further members behind the first, up to `$END RGP`
abbrev pub behind_member : RawTable → Part Line (List RawTable)
behind_member first = seen_as (members_with first) further_part

-- one member or more, up to `$END RGP`
abbrev pub members_part : Part Line (List RawTable)
members_part = sequence table_block behind_member

-- the group of this number with these members
abbrev pub group_with : ℕ → List RawTable → RawGroup
group_with number members = record { number = number; members = members }

-- the members of the group of this number, up to `$END RGP`
abbrev pub behind_number : ℕ → Part Line RawGroup
behind_number number = seen_as (group_with number) members_part

-- the number of a group and its members, up to `$END RGP`
abbrev pub behind_rgp : Part Line RawGroup
behind_rgp = sequence (line group_number_of) behind_number

-- `$RGP`, the number of a group and its members, `$END RGP`
abbrev pub group_part : Part Line RawGroup
group_part = sequence (keyword (codes "$RGP")) (λ _. behind_rgp)

-- what reading a group from the first of the lines on gives
unfoldable pub group_at : List Line → Reading Line RawGroup
group_at = group_part.read

-- the form of a group; a counts line is due behind the `$CTAB` of each member
abbrev pub group_form : Part Line RawGroup
group_form = form IsGroup IsGroupToTable group_at

-- ---- the whole

-- the first line, which may be anything, and whether it begins with `$MDL`
abbrev pub first_of : Line → Option Bool
first_of line = Some (begins_mdl line)

-- three header lines and `$END HDR`
abbrev pub behind_hdr : Part Line (Unit {0})
behind_hdr = sequence (any_lines 3) (λ _. keyword (codes "$END HDR"))

-- from `$HDR` to `$END HDR`
abbrev pub behind_mol : Part Line (Unit {0})
behind_mol = sequence (keyword (codes "$HDR")) (λ _. behind_hdr)

-- from `$MOL` to `$END HDR`
abbrev pub head_part : Part Line (Unit {0})
head_part = sequence (keyword (codes "$MOL")) (λ _. behind_mol)

-- groups, up to `$END MOL`
abbrev pub groups_to_end : Part Line (List RawGroup × Unit {0})
groups_to_end = until (is_keyword (codes "$END MOL")) group_form (keyword (codes "$END MOL"))

-- the groups that stand before `$END MOL`
abbrev pub groups_in : List RawGroup × Unit {0} → List RawGroup
groups_in v = v.0

-- the groups of an RGfile, up to `$END MOL`
abbrev pub groups_part : Part Line (List RawGroup)
groups_part = seen_as groups_in groups_to_end

-- the raw query of this root with these groups
abbrev pub query_with : RawTable → List RawGroup → RawQuery
query_with root groups = record { root = root; groups = groups }

-- blank lines to the end, where the query is known
abbrev pub blanks_part : RawQuery → Part Line RawQuery
blanks_part query = seen_as (λ _. query) (lines_to_end are_blank)

-- blank lines to the end, where root and groups are known
abbrev pub behind_groups : RawTable → List RawGroup → Part Line RawQuery
behind_groups root groups = blanks_part (query_with root groups)

-- groups, `$END MOL` and blank lines, where the root is known
abbrev pub behind_root : RawTable → Part Line RawQuery
behind_root root = sequence groups_part (behind_groups root)

-- the root, groups, `$END MOL` and blank lines
abbrev pub behind_head : Part Line RawQuery
behind_head = sequence table_block behind_root

-- an RGfile behind its first line, which begins with `$MDL`
abbrev pub rgfile_part : Part Line RawQuery
rgfile_part = sequence head_part (λ _. behind_head)

-- a table and blank lines: the query of a molfile behind its header lines
abbrev pub behind_headers : Part Line RawQuery
behind_headers = sequence table_form (λ table. blanks_part (query_with table []))

-- a molfile and blank lines behind the first line, which doesn't begin with `$MDL`
abbrev pub molfile_part : Part Line RawQuery
molfile_part = sequence (any_lines 2) (λ _. behind_headers)

-- what follows a first line: it begins with `$MDL`, or it doesn't
abbrev pub behind_first : Bool → Part Line RawQuery
behind_first true = rgfile_part
behind_first false = molfile_part

-- a query file: the first line, and what follows it
abbrev pub query_part : Part Line RawQuery
query_part = sequence (line first_of) behind_first

-- what reading a query file from the first of the lines on gives
unfoldable pub query_at : List Line → Reading Line RawQuery
query_at = query_part.read

-- ---- places

-- the places are those of the lines of the text
pub record AreLines (text : List ℕ) (spans : List Span) : Type 0 where
  pub are : parts text spans ≡ lines_of text
  pub within : AreWithin text spans
  pub starts : BeginLines text spans
  pub count : length spans ≡ length (lines_of text)
