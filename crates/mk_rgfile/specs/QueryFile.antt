-- Query files: an RGfile, or a molfile followed by blank lines alone.
--     IsQueryFile lines query       the lines are a query file with this query
--     IsBadQueryLine lines k        line k is the first with which no query file can begin, or one
--                                   more than the last
--     IsV3000Line lines k           line k says V3000, and a counts line is due there
--     HasOneQuery, HasBadLine, HasOneBadLine     three laws of it
-- What the lines of a table are, and what a molfile is, is said in mk_tables. The layout is drawn in
-- docs/FORMAT.md, "Query files".
use Rattle.std.specs.Prelude.{◌≡◌, ◌↔◌, ℕ, ◌≤◌, true, false, List, [], ◌∷◌, ◌++◌, length, ◌⊎◌, codes}
use Rattle.mk_form.specs.Choice.{FirstIs}
use Rattle.mk_form.specs.Fronts.{IsBadLine, IsNamed}
use Rattle.mk_form.specs.Rows.{Series}
use Rattle.mk_form.specs.ToEnd.{EachIs}
use Rattle.mk_text.specs.Columns.{are_blank}
use Rattle.mk_tables.specs.declared.raw.RawTable.{RawTable}
use Rattle.mk_tables.specs.Molfile.{IsMolfile, AreHeaders}
use Rattle.mk_tables.specs.Table.{IsTable}
use Rattle.mk_tables.specs.TableLines.{Line, is_v3000}
use Rattle.mk_rgfile.specs.declared.raw_query.RawGroup.{RawGroup}
use Rattle.mk_rgfile.specs.declared.raw_query.RawQuery.{RawQuery}
use Rattle.mk_rgfile.specs.QueryLines.{begins_mdl, is_keyword, IsGroupNumber}

-- ---- the parts of an RGfile

-- a line that begins with `$MDL`; `$MOL`; `$HDR`; three header lines, which may be anything;
-- `$END HDR`
pub record IsHead (lines : List Line) : Type 0 where
  pub first_line : Line
  pub mol_line : Line
  pub open_line : Line
  pub header_lines : List Line
  pub close_line : Line
  pub whole : lines ≡ first_line ∷ mol_line ∷ open_line ∷ (header_lines ++ close_line ∷ [])
  pub first : begins_mdl first_line ≡ true
  pub mol : is_keyword (codes "$MOL") mol_line ≡ true
  pub opens : is_keyword (codes "$HDR") open_line ≡ true
  pub three : length header_lines ≡ 3
  pub closes : is_keyword (codes "$END HDR") close_line ≡ true

-- `$CTAB`, the lines of a table, `$END CTAB`
pub record IsTableBlock (lines : List Line) (table : RawTable) : Type 0 where
  pub open_line : Line
  pub table_lines : List Line
  pub close_line : Line
  pub whole : lines ≡ open_line ∷ (table_lines ++ close_line ∷ [])
  pub opens : is_keyword (codes "$CTAB") open_line ≡ true
  pub is : IsTable table_lines table
  pub closes : is_keyword (codes "$END CTAB") close_line ≡ true

-- `$RGP`, a line with the number of the group, one table or more, `$END RGP`
pub record IsGroup (lines : List Line) (group : RawGroup) : Type 0 where
  pub open_line : Line
  pub number_line : Line
  pub member_lines : List Line
  pub close_line : Line
  pub whole : lines ≡ open_line ∷ number_line ∷ (member_lines ++ close_line ∷ [])
  pub opens : is_keyword (codes "$RGP") open_line ≡ true
  pub number : IsGroupNumber number_line group.number
  pub members : Series IsTableBlock member_lines group.members
  pub some : 1 ≤ length group.members
  pub closes : is_keyword (codes "$END RGP") close_line ≡ true

-- ---- the two kinds of query file

-- no line, or blank lines alone
abbrev pub AreBlankLines : List Line → Type 0
AreBlankLines lines = EachIs are_blank true lines

-- the head, the root table, any number of groups, `$END MOL`, and blank lines or none
pub record IsRgfile (lines : List Line) (query : RawQuery) : Type 0 where
  pub head_lines : List Line
  pub root_lines : List Line
  pub group_lines : List Line
  pub last_line : Line
  pub blank_lines : List Line
  pub whole : lines ≡ head_lines ++ (root_lines ++ (group_lines ++ last_line ∷ blank_lines))
  pub head : IsHead head_lines
  pub root : IsTableBlock root_lines query.root
  pub groups : Series IsGroup group_lines query.groups
  pub last : is_keyword (codes "$END MOL") last_line ≡ true
  pub blanks : AreBlankLines blank_lines

-- a molfile of which the first line doesn't begin with `$MDL`, and blank lines or none; there are
-- no groups
pub record IsMolfileQuery (lines : List Line) (query : RawQuery) : Type 0 where
  pub molfile_lines : List Line
  pub blank_lines : List Line
  pub whole : lines ≡ molfile_lines ++ blank_lines
  pub first : FirstIs begins_mdl false molfile_lines
  pub is : IsMolfile molfile_lines query.root
  pub none : query.groups ≡ []
  pub blanks : AreBlankLines blank_lines

-- the lines are an RGfile, or a molfile and blank lines
abbrev pub IsQueryFile : List Line → RawQuery → Type 0
IsQueryFile lines query = IsRgfile lines query ⊎ IsMolfileQuery lines query

-- ---- the line that is named

-- line k is the first with which no query file can begin behind the lines before it, or one more
-- than the number of lines
abbrev pub IsBadQueryLine : List Line → ℕ → Type 0
IsBadQueryLine lines k = IsBadLine IsQueryFile lines k

-- just one line, which is the keyword
pub record IsKeywordLine (word : List ℕ) (lines : List Line) : Type 0 where
  pub line : Line
  pub whole : lines ≡ line ∷ []
  pub is : is_keyword word line ≡ true

-- `$RGP`, the number, some tables or none, and the `$CTAB` of one more
pub record IsGroupToTable (lines : List Line) : Type 0 where
  pub open_line : Line
  pub number_line : Line
  pub member_lines : List Line
  pub table_line : Line
  pub number : ℕ
  pub before : List RawTable
  pub whole : lines ≡ open_line ∷ number_line ∷ (member_lines ++ table_line ∷ [])
  pub opens : is_keyword (codes "$RGP") open_line ≡ true
  pub number_is : IsGroupNumber number_line number
  pub members : Series IsTableBlock member_lines before
  pub table : is_keyword (codes "$CTAB") table_line ≡ true

-- the three header lines of a molfile, of which the first doesn't begin with `$MDL`
pub record IsHeaderToTable (lines : List Line) : Type 0 where
  pub first : FirstIs begins_mdl false lines
  pub three : AreHeaders lines

-- the head of an RGfile, and the `$CTAB` of its root
pub record IsHeadToTable (lines : List Line) : Type 0 where
  pub head_lines : List Line
  pub table_line : Line
  pub whole : lines ≡ head_lines ++ table_line ∷ []
  pub head : IsHead head_lines
  pub table : is_keyword (codes "$CTAB") table_line ≡ true

-- the head of an RGfile, its root, some groups or none, and one more group up to the `$CTAB` of a
-- member
pub record IsRgfileToMember (lines : List Line) : Type 0 where
  pub head_lines : List Line
  pub root_lines : List Line
  pub group_lines : List Line
  pub due_lines : List Line
  pub root : RawTable
  pub before : List RawGroup
  pub whole : lines ≡ head_lines ++ (root_lines ++ (group_lines ++ due_lines))
  pub head : IsHead head_lines
  pub root_is : IsTableBlock root_lines root
  pub groups : Series IsGroup group_lines before
  pub due : IsGroupToTable due_lines

-- after exactly these lines of a query file a counts line is due
abbrev pub IsCountsDue : List Line → Type 0
IsCountsDue lines = IsHeaderToTable lines ⊎ (IsHeadToTable lines ⊎ IsRgfileToMember lines)

-- line k says V3000, all lines before it fit, and a counts line is due there
abbrev pub IsV3000Line : List Line → ℕ → Type 0
IsV3000Line lines k = IsNamed IsCountsDue is_v3000 lines k

-- ---- laws

-- lines are at most one query file, with one query
abbrev pub HasOneQuery : Type 0
HasOneQuery = (lines : List Line) (a b : RawQuery) → IsQueryFile lines a → IsQueryFile lines b → a ≡ b

-- lines have a bad line exactly where they are no query file
abbrev pub HasBadLine : Type 0
HasBadLine = (lines : List Line) → ((k : ℕ) × IsBadQueryLine lines k) ↔ ((query : RawQuery) → ¬ (IsQueryFile lines query))

-- lines have at most one bad line
abbrev pub HasOneBadLine : Type 0
HasOneBadLine = (lines : List Line) (j k : ℕ) → IsBadQueryLine lines j → IsBadQueryLine lines k → j ≡ k
