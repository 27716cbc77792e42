-- What the code notes of the lists of elements that are in force for atoms. For the code alone.
--     IsPlaceOf lists props place found     the list that was found stands at the place
--     in_force front x                      of some lists the last that names atom x
--     AreInForce lists props front places   what is noted of each atom is the place of that list
--     IsPlaceAt n place old new             a place was put at atom n
--     IsListNoted property i old new        the list that a property is, was noted
use Rattle.std.specs.Prelude.{◌≡◌, ◌<◌, ◌+◌, ◌==◌, ℕ, List, Option, Some, None, length, slice_get, slice_index_or, if◌then◌else◌}
use Rattle.std.specs.List.{filter}
use Rattle.mk_props.specs.declared.property.AtomList.{AtomList}
use Rattle.mk_props.specs.declared.property.Property.{Property}
use Rattle.mk_props.specs.declared.property.Property.TheVariants as kinds
use Rattle.mk_tables.specs.declared.raw.RawList.{RawList}
use Rattle.mk_demands.specs.Numbers.{natural}
use Rattle.mk_query.specs.declared.list_places.ListPlace.{ListPlace}
use Rattle.mk_query.specs.declared.list_places.ListPlace.TheVariants as place
use Rattle.mk_query.specs.Drawn.{ElementList, by_numbers, by_symbols, last_list, listed_atom}
use Rattle.mk_query.specs.Marks.{AreMarks}

-- the list that was found stands at the place, or there is none
abbrev pub IsPlaceOf : List RawList → List Property → ListPlace → Option ElementList → Type 0
IsPlaceOf lists props place.Nothing found = found ≡ None
IsPlaceOf lists props (place.Line i) found = (list : RawList) × (slice_get lists i ≡ Some list) × (found ≡ Some (by_numbers list))
IsPlaceOf lists props (place.Property i) found = (list : AtomList) × (slice_get props i ≡ Some (kinds.List list)) × (found ≡ Some (by_symbols list))

-- of some lists the last that names atom x
abbrev pub in_force : List ElementList → ℕ → Option ElementList
in_force front x = last_list None (filter (λ list. listed_atom list == x) front)

-- what is noted of each atom is the place of the last of these lists that names it
abbrev pub AreInForce : List RawList → List Property → List ElementList → List ListPlace → Type 0
AreInForce lists props front places = AreMarks (λ x found. IsPlaceOf lists props found (in_force front x)) places

-- a place was put at atom n, where there is one
pub record IsPlaceAt (n : ℕ) (put : ListPlace) (old new : List ListPlace) : Type 0 where
  pub size : length new ≡ length old
  pub each : (k : ℕ) (d : ListPlace) → k < length old → slice_index_or new k d ≡ (if n == k + 1 then put else slice_index_or old k d)

-- the list that property i is, was noted; any other property changes nothing
abbrev pub IsListNoted : Property → ℕ → List ListPlace → List ListPlace → Type 0
IsListNoted (kinds.List list) i old new = IsPlaceAt (natural list.atom) (place.Property i) old new
IsListNoted other i old new = new ≡ old
