use Rattle.std.proofs.Common.{subst, sym}
use Rattle.std.specs.Prelude.{All, IfOk, pos}
use Rattle.mk_props.specs.declared.property.Property.{Property}
use Rattle.mk_tables.specs.declared.raw.RawList.{RawList}
use Rattle.mk_demands.specs.Numbers.{IsWithin}
use Rattle.mk_query.specs.KindMarks.{AreKnownAt, AreKnownIn, IsKindBy, IsKindIn}
use Rattle.mk_query.specs.Drawn.{by_numbers}
use Rattle.mk_query.proofs.KindLemmas.{line_tells, property_tells, read_there}
use Rattle.mk_query.proofs.element_kinds.listed_kind.Goals as goal

pub line_kind-requires : goal.line_kind-requires
line_kind-requires c =
    let table = c.args.table.now in
    let known = subst (AreKnownAt table.lists table.props) c.in-Line.is c.requires in
    let same = read_there table.lists c.as_slice.result.now c.in-Line.i c.index-as_slice-i.result known.0 c.as_slice.ensures c.index-as_slice-i.is known.1 in
    subst (λ (list : RawList). All (IsWithin (pos 1) (pos 118)) list.numbers) (sym same) known.2

pub property_kind-requires : goal.property_kind-requires
property_kind-requires c =
    let table = c.args.table.now in
    let known = subst (AreKnownAt table.lists table.props) c.in-Property.is c.requires in
    let same = read_there table.props c.as_slice-in-Property.result.now c.in-Property.i c.index-as_slice-i-in-Property.result known.0 c.as_slice-in-Property.ensures
    c.index-as_slice-i-in-Property.is known.1 in
    subst AreKnownIn (sym same) known.2

pub returns-in-Line : goal.returns-in-Line
returns-in-Line c =
    let table = c.args.table.now in
    let known = subst (AreKnownAt table.lists table.props) c.in-Line.is c.requires in
    let same = read_there table.lists c.as_slice.result.now c.in-Line.i c.index-as_slice-i.result known.0 c.as_slice.ensures c.index-as_slice-i.is known.1 in
    let told = subst (λ (list : RawList). IfOk c.line_kind.result (IsKindIn (by_numbers list))) same c.line_kind.ensures in
    rw c.in-Line.is (line_tells c.line_kind.result table.lists table.props c.in-Line.i known.0 known.1 told)

pub returns-in-Property : goal.returns-in-Property
returns-in-Property c =
    let table = c.args.table.now in
    let known = subst (AreKnownAt table.lists table.props) c.in-Property.is c.requires in
    let same = read_there table.props c.as_slice-in-Property.result.now c.in-Property.i c.index-as_slice-i-in-Property.result known.0 c.as_slice-in-Property.ensures
    c.index-as_slice-i-in-Property.is known.1 in
    let told = subst (λ (property : Property). IfOk c.property_kind.result (IsKindBy property)) same c.property_kind.ensures in
    rw c.in-Property.is (property_tells c.property_kind.result table.lists table.props c.in-Property.i known.0 known.1 told)
