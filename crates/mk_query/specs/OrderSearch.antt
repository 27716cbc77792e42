-- How the search for a site whose neighbours are in disorder sees an `M  AAL`. For the code alone.
--     Names entries y, Gives entries k     an entry is for atom y, an entry gives place k
--     OrdersNear entries near              the entries order these neighbours
--     IsOrderedBy sites near seen property    an `M  AAL` is right by what is noted of the atoms
--     names_site x property, IsSeen property old new    the marks on the sites of the properties
--                                                       behind
use Rattle.std.specs.Prelude.{◌≡◌, ◌<◌, ◌+◌, ◌-◌, ◌==◌, ◌||◌, ℕ, pos, Bool, false, List, Contains, IsTrue, length, slice_index_or}
use Rattle.mk_props.specs.declared.property.Pair.{Pair}
use Rattle.mk_props.specs.declared.property.Property.{Property}
use Rattle.mk_props.specs.declared.property.Property.TheVariants as kinds
use Rattle.mk_props.specs.declared.property.SiteOrder.{SiteOrder}
use Rattle.mk_demands.specs.Numbers.{IsAtom, natural}
use Rattle.mk_query.specs.declared.drawn.Near.{Near}
use Rattle.mk_query.specs.declared.drawn.Near.TheVariants as near
use Rattle.mk_query.specs.Marks.{site_mark}

-- an entry is for atom y
abbrev pub Names : List Pair → ℕ → Type 0
Names entries y = (pair : Pair) × Contains entries pair × (pair.atom ≡ pos y)

-- an entry gives place k
abbrev pub Gives : List Pair → ℕ → Type 0
Gives entries k = (pair : Pair) × Contains entries pair × (pair.value ≡ pos k)

-- the entries name each of one or two neighbours, give each place, and are no more
abbrev pub OrdersNear : List Pair → Near → Type 0
OrdersNear entries (near.One y) = (length entries ≡ 1) × (Names entries y × Gives entries 1)
OrdersNear entries (near.Two y z) = (length entries ≡ 2) × ((Names entries y × Names entries z) × (Gives entries 1 × Gives entries 2))
OrdersNear entries other = ⊥

-- the order is of an atom that is noted as a site and not as seen, and orders the neighbours that
-- are noted
pub record IsOrderBy (sites : List Bool) (notes : List Near) (seen : List Bool) (order : SiteOrder) : Type 0 where
  pub atom : IsAtom (length sites) order.atom
  pub site : IsTrue (site_mark sites (natural order.atom))
  pub last : site_mark seen (natural order.atom) ≡ false
  pub orders : OrdersNear order.entries (slice_index_or notes (natural order.atom - 1) near.Nothing)

-- an `M  AAL` is right by what is noted of the atoms, and any other property always
abbrev pub IsOrderedBy : List Bool → List Near → List Bool → Property → Type 0
IsOrderedBy sites notes seen (kinds.Order order) = IsOrderBy sites notes seen order
IsOrderedBy sites notes seen other = Unit {0}

-- the property is an `M  AAL` of atom x
abbrev pub names_site : ℕ → Property → Bool
names_site x (kinds.Order order) = natural order.atom == x
names_site x other = false

-- the site of the property is marked besides those that were
pub record IsSeen (property : Property) (old new : List Bool) : Type 0 where
  pub size : length new ≡ length old
  pub marked : (k : ℕ) → k < length old → slice_index_or new k false ≡ (names_site (k + 1) property || slice_index_or old k false)
