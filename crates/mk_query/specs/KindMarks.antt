-- What the code knows of the kinds of atoms. For the code alone.
--     IsPlainSymbol symbol              an element's symbol or a word for one, other than `R#`
--     IsKindIn list kind                the kind that a list of elements tells
--     IsKindAt lists props place kind   the kind that the list at a place tells, where there is one
--     AreKnownAt lists props place      its members are elements
--     IsKindFor symbol lists props place kind   the kind for a symbol
use Rattle.std.specs.Prelude.{◌≡◌, ◌⊎◌, ℕ, pos, Bool, List, Option, Some, All, codes, slice_get, if◌then◌else◌}
use Rattle.mk_props.specs.declared.property.Property.{Property}
use Rattle.mk_props.specs.declared.property.Property.TheVariants as kinds
use Rattle.mk_model.specs.declared.atom_test.Kind.{Kind}
use Rattle.mk_model.specs.declared.atom_test.Kind.TheVariants.{OneOf, NoneOf}
use Rattle.mk_tables.specs.declared.raw.RawList.{RawList}
use Rattle.mk_demands.specs.Numbers.{IsWithin}
use Rattle.mk_query.specs.declared.list_places.ListPlace.{ListPlace}
use Rattle.mk_query.specs.declared.list_places.ListPlace.TheVariants as place
use Rattle.mk_query.specs.Checks.{IsElementName, IsQueryWord}
use Rattle.mk_query.specs.Compiled.{HasElements, IsKindOf, kind_by}
use Rattle.mk_query.specs.Drawn.{ElementList, by_numbers, by_symbols}

-- an element's symbol, or a word for a kind of atoms
pub record IsPlainSymbol (symbol : List ℕ) : Type 0 where
  pub known : IsElementName symbol ⊎ IsQueryWord symbol
  pub no_site : ¬ (symbol ≡ codes "R#")

-- one of these elements, or none of them
abbrev pub kind_with : Bool → List ℕ → Kind
kind_with not elements = if not then NoneOf elements else OneOf elements

-- the kind that a list of elements tells
pub record IsKindIn (list : ElementList) (kind : Kind) : Type 0 where
  pub elements : List ℕ
  pub has : HasElements list elements
  pub is : kind ≡ kind_by list elements

-- the kind that a property tells, where it is a list
abbrev pub IsKindBy : Property → Kind → Type 0
IsKindBy (kinds.List list) kind = IsKindIn (by_symbols list) kind
IsKindBy other kind = Unit {0}

-- the kind that the list at a place tells, where there is one
abbrev pub IsKindAt : List RawList → List Property → ListPlace → Kind → Type 0
IsKindAt lists props place.Nothing kind = Unit {0}
IsKindAt lists props (place.Line i) kind = (list : RawList) × (slice_get lists i ≡ Some list) × IsKindIn (by_numbers list) kind
IsKindAt lists props (place.Property i) kind = (property : Property) × (slice_get props i ≡ Some property) × IsKindBy property kind

-- the symbols of a list name elements
abbrev pub AreKnownIn : Property → Type 0
AreKnownIn (kinds.List list) = All IsElementName list.symbols
AreKnownIn other = Unit {0}

-- the members of the list at a place are elements
abbrev pub AreKnownAt : List RawList → List Property → ListPlace → Type 0
AreKnownAt lists props place.Nothing = Unit {0}
AreKnownAt lists props (place.Line i) = (list : RawList) × (slice_get lists i ≡ Some list) × All (IsWithin (pos 1) (pos 118)) list.numbers
AreKnownAt lists props (place.Property i) = (property : Property) × (slice_get props i ≡ Some property) × AreKnownIn property

-- the kind for a symbol: for `L` that of the list at a place, and for any other one that no list
-- changes
pub data IsKindFor (symbol : List ℕ) (lists : List RawList) (props : List Property) (put : ListPlace) (kind : Kind) : Type 0 where
  listed : symbol ≡ codes "L" → IsKindAt lists props put kind → IsKindFor symbol lists props put kind
  plain : ((found : Option ElementList) → IsKindOf found symbol kind) → IsKindFor symbol lists props put kind
