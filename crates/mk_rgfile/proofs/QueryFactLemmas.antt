-- What the query of every query file keeps.
use Rattle.std.proofs.Common.{ℕ, ◌+◌, ◌≤◌, ◌<◌, Result, Ok, Err, List, [], ◌∷◌, ◌++◌, length, sym, ap, subst, inl, inr, arith}
use Rattle.std.specs.Prelude.{All, IfOk}
use Rattle.std.proofs.lemmas.List.{length-append}
use Rattle.std.proofs.lemmas.List.Elements.{All-nil, All-cons}
use Rattle.mk_form.specs.Rows.{Series}
use Rattle.mk_tables.specs.declared.fault.TableFault.{TableFault}
use Rattle.mk_tables.specs.declared.raw.RawTable.{RawTable}
use Rattle.mk_tables.specs.TableFacts.{IsRawTable}
use Rattle.mk_tables.specs.TableLines.{Line}
use Rattle.mk_tables.proofs.ForCallers.{keeps, few_properties}
use Rattle.mk_rgfile.specs.declared.raw_query.RawGroup.{RawGroup}
use Rattle.mk_rgfile.specs.declared.raw_query.RawQuery.{RawQuery}
use Rattle.mk_rgfile.specs.QueryFile.{IsTableBlock, IsGroup, IsRgfile, IsMolfileQuery, IsQueryFile}
use Rattle.mk_rgfile.specs.QueryFacts.{IsRawGroup, IsRawQuery, members_in, HasFewProperties, FitsIn}

-- ---- what holds of each

-- what each text of a series keeps, where its lines are no more than so many
all_of : {X : Type 0} (P : List Line → X → Type 0) (Q : X → Type 0) (size : ℕ) → ((lines : List Line) (x : X) → P lines x → length lines ≤ size → Q x)
    → (lines : List Line) (xs : List X) → Series P lines xs → length lines ≤ size → All Q xs
all_of P Q size each lines [] h le = All-nil Q
all_of P Q size each lines (x ∷ xs) h le =
    let sum = ap length h.2 in
    let parts = length-append h.0 h.1 in
    All-cons Q x xs (each h.0 x h.3 (omega arith)) (all_of P Q size each h.1 xs h.4 (omega arith))

-- a table keeps what tables keep
block_keeps : (lines : List Line) (table : RawTable) → IsTableBlock lines table → IsRawTable table
block_keeps lines table h = keeps h.table_lines table h.is

-- a group keeps what groups keep
group_keeps : (lines : List Line) (group : RawGroup) → IsGroup lines group → IsRawGroup group
group_keeps lines group h = record {
  from_one = h.number.from_one;
  to_32 = h.number.to_32;
  some = h.some;
  members = all_of IsTableBlock IsRawTable (length h.member_lines) (λ ls t k le. block_keeps ls t k) h.member_lines group.members h.members (omega arith);
}

-- and a query what queries keep
pub query_keeps : (lines : List Line) (query : RawQuery) → IsQueryFile lines query → IsRawQuery query
query_keeps lines query h = elim h [
  | inl h ↦ record {
    root = block_keeps h.root_lines query.root h.root;
    groups = all_of IsGroup IsRawGroup (length h.group_lines) (λ ls g k le. group_keeps ls g k) h.group_lines query.groups h.groups (omega arith);
  }
  | inr h ↦ record { root = keeps h.is.table_lines query.root h.is.is; groups = subst (All IsRawGroup) (sym h.none) (All-nil IsRawGroup) }
]

-- ---- how many lines there are

-- a table has two lines more than it has properties, and two keywords
block_lines : (lines : List Line) (table : RawTable) → IsTableBlock lines table → length table.props + 2 < length lines
block_lines lines table h = omega (arith, few_properties h.table_lines table h.is, ap length h.whole, length-append h.table_lines (h.close_line ∷ []))

-- so fewer tables than lines
members_few : (lines : List Line) (members : List RawTable) → Series IsTableBlock lines members → length members ≤ length lines
members_few lines [] h = omega arith
members_few lines (t ∷ ts) h = omega (arith, block_lines h.0 t h.3, members_few h.1 ts h.4, ap length h.2, length-append h.0 h.1)

-- of a group too
group_lines : (lines : List Line) (group : RawGroup) → IsGroup lines group → length group.members + 3 ≤ length lines
group_lines lines group h = omega (arith, members_few h.member_lines group.members h.members, ap length h.whole, length-append h.member_lines (h.close_line ∷ []))

-- and of all groups
groups_few : (lines : List Line) (groups : List RawGroup) → Series IsGroup lines groups → members_in groups ≤ length lines
groups_few lines [] h = omega arith
groups_few lines (g ∷ gs) h = omega (arith, group_lines h.0 g h.3, groups_few h.1 gs h.4, ap length h.2, length-append h.0 h.1)

-- a table among so many lines has fewer properties
block_fits : (size : ℕ) (lines : List Line) (table : RawTable) → IsTableBlock lines table → length lines ≤ size → HasFewProperties size table
block_fits size lines table h le = omega (arith, block_lines lines table h)

-- and so have the members of a group
group_fits : (size : ℕ) (lines : List Line) (group : RawGroup) → IsGroup lines group → length lines ≤ size → All (HasFewProperties size) group.members
group_fits size lines group h le =
    all_of IsTableBlock (HasFewProperties size) size (block_fits size) h.member_lines group.members h.members
    (omega (arith, ap length h.whole, length-append h.member_lines (h.close_line ∷ [])))

-- the lines of an RGfile
rgfile_fits : (lines : List Line) (query : RawQuery) → IsRgfile lines query → FitsIn (length lines) query
rgfile_fits lines query h =
    let last = h.last_line ∷ h.blank_lines in
    let sum = ap length h.whole in
    let one = length-append h.head_lines (h.root_lines ++ (h.group_lines ++ last)) in
    let two = length-append h.root_lines (h.group_lines ++ last) in
    let three = length-append h.group_lines last in
    let root = block_lines h.root_lines query.root h.root in
    let members = groups_few h.group_lines query.groups h.groups in
    record {
      few_members = omega arith;
      root = block_fits (length lines) h.root_lines query.root h.root (omega arith);
      members = all_of IsGroup (λ group. All (HasFewProperties (length lines)) group.members) (length lines) (group_fits (length lines)) h.group_lines query.groups h.groups (omega arith);
    }

-- and of a molfile
molfile_fits : (lines : List Line) (query : RawQuery) → IsMolfileQuery lines query → FitsIn (length lines) query
molfile_fits lines query h =
    let m = h.is in
    let sum = ap length h.whole in
    let one = length-append h.molfile_lines h.blank_lines in
    let whole = ap length m.whole in
    let two = length-append m.header_lines m.table_lines in
    let root = few_properties m.table_lines query.root m.is in
    let Few : RawGroup → Type 0 = λ group. All (HasFewProperties (length lines)) group.members in
    let none = ap members_in h.none in
    let three = m.three in
    record { few_members = omega arith; root = omega arith; members = subst (All Few) (sym h.none) (All-nil Few) }

query_fits : (lines : List Line) (query : RawQuery) → IsQueryFile lines query → FitsIn (length lines) query
query_fits lines query h = elim h [ inl h ↦ rgfile_fits lines query h | inr h ↦ molfile_fits lines query h ]

-- ---- by what was answered

pub keeps_by : (lines : List Line) (answer : Result RawQuery TableFault) → IfOk answer (IsQueryFile lines) → IfOk answer IsRawQuery
keeps_by lines (Ok query) h = query_keeps lines query h
keeps_by lines (Err fault) h = tt

pub fits_by : (lines : List Line) (answer : Result RawQuery TableFault) → IfOk answer (IsQueryFile lines) → IfOk answer (FitsIn (length lines))
fits_by lines (Ok query) h = query_fits lines query h
fits_by lines (Err fault) h = tt
