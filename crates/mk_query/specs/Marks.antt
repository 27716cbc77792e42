-- What the code notes of each atom in one pass over a table. For the code alone.
--     AreMarks Is marks           what is noted of each atom holds of it
--     HasMore Is more old new     a note speaks of more, behind what it spoke of
--     AreMore Is more old new     the notes on all atoms speak of more
--     site_mark sites x           what is noted of atom x in a list of sites
--     IsNear neighbours near      the note on an atom with these neighbours
--     are_apart sites near        there are one or two, and none is a site
--     HasKnownLabels property     the labels that a property gives are from 1 to 32
--     has_group groups g          the bit of group g is set
--     IsLabels labels mark        the note on an atom with these labels
--     lists_for x lists           those of some lists that name atom x
--     IsListMark lists mark       the note on an atom that these lists name
--     AreServed groups served     the notes on the numbers of groups: which have a member
--     AreAllServed served groups  so it is noted of each group of which the bit is set
use Rattle.std.specs.Prelude.{◌≡◌, ◌≢◌, ◌≤◌, ◌<◌, ◌+◌, ◌-◌, ◌==◌, ◌&&◌, ◌↔◌, not, ℕ, ℤ, pos, Bool, false, List, [], ◌∷◌, ◌++◌, All, AllPairs, IsTrue, length, slice_index_or}
use Rattle.std.specs.Int.{bit_at}
use Rattle.std.specs.List.{filter}
use Rattle.mk_props.specs.declared.property.Property.{Property}
use Rattle.mk_demands.specs.Numbers.{IsWithin}
use Rattle.mk_rgfile.specs.declared.raw_query.RawGroup.{RawGroup}
use Rattle.mk_query.specs.declared.drawn.Labels.{Labels}
use Rattle.mk_query.specs.declared.drawn.Near.{Near}
use Rattle.mk_query.specs.declared.drawn.Near.TheVariants as near
use Rattle.mk_query.specs.declared.lists.ListMark.{ListMark}
use Rattle.mk_query.specs.Compiled.{is_label}
use Rattle.mk_query.specs.Drawn.{ElementList, label_pairs, listed_atom}
use Rattle.mk_query.specs.SiteChecks.{HasKnownMembers, HasMember}

-- ---- notes

-- what is noted of each atom holds of it
abbrev pub AreMarks : {X : Type 0} → (ℕ → X → Type 0) → List X → Type 0
AreMarks {X} Is marks = (k : ℕ) (d : X) → k < length marks → Is (k + 1) (slice_index_or marks k d)

-- a note that spoke of some things speaks of these too, behind them
abbrev pub HasMore : {V X : Type 0} → (List V → X → Type 0) → List V → X → X → Type 0
HasMore {V} {X} Is more old new = (those : List V) → Is those old → Is (those ++ more) new

-- the note on each atom speaks of more too, behind what it spoke of
pub record AreMore {V X : Type 0} (Is : List V → X → Type 0) (more : ℕ → List V) (old new : List X) : Type 0 where
  pub size : length new ≡ length old
  pub each : (k : ℕ) (d : X) → k < length old → HasMore Is (more (k + 1)) (slice_index_or old k d) (slice_index_or new k d)

-- ---- sites and neighbours

-- what is noted of atom x in a list of sites
abbrev pub site_mark : List Bool → ℕ → Bool
site_mark sites x = slice_index_or sites (x - 1) false

-- the note on an atom with these neighbours, which are told apart up to two
abbrev pub IsNear : List ℕ → Near → Type 0
IsNear neighbours near.Nothing = neighbours ≡ []
IsNear neighbours (near.One y) = neighbours ≡ y ∷ []
IsNear neighbours (near.Two y z) = neighbours ≡ y ∷ z ∷ []
IsNear neighbours near.More = 3 ≤ length neighbours

-- there are one or two neighbours, and none is a site
unfoldable pub are_apart : List Bool → Near → Bool
are_apart sites (near.One y) = not (site_mark sites y)
are_apart sites (near.Two y z) = not (site_mark sites y) && not (site_mark sites z)
are_apart sites other = false

-- ---- labels

-- a label is the number of a group, from 1 to 32
abbrev pub IsKnownLabel : ℤ → Type 0
IsKnownLabel label = IsWithin (pos 1) (pos 32) label

-- the labels that a property gives are from 1 to 32
abbrev pub HasKnownLabels : Property → Type 0
HasKnownLabels property = All (λ pair. IsKnownLabel pair.value) (label_pairs property)

-- the bit of group g is set, where that of group 1 is the lowest
abbrev pub has_group : ℕ → ℕ → Bool
has_group groups g = bit_at groups (g - 1) == 1

-- the labels are from 1 to 32, and none stands twice
pub record AreOnce (those : List ℤ) : Type 0 where
  pub known : All IsKnownLabel those
  pub apart : AllPairs (λ label later. label ≢ later) those

-- the note on an atom with these labels: whether there are any, whether they are from 1 to 32 and
-- none stands twice, and the bits of their groups
pub record IsLabels (those : List ℤ) (mark : Labels) : Type 0 where
  pub some : IsTrue mark.some ↔ (those ≢ [])
  pub once : IsTrue mark.once ↔ AreOnce those
  pub groups : (g : ℕ) → 1 ≤ g → g ≤ 32 → has_group mark.groups g ≡ is_label those g

-- what is noted of the number that a label is
abbrev pub is_served : List Bool → ℤ → Bool
is_served served (pos g) = slice_index_or served g false
is_served served other = false

-- of each group of which the bit is set it is noted that it has a member
abbrev pub AreAllServed : List Bool → ℕ → Type 0
AreAllServed served groups = (g : ℕ) → 1 ≤ g → g ≤ 32 → IsTrue (has_group groups g) → IsTrue (is_served served (pos g))

-- noted are the numbers of the groups that have a member
abbrev pub AreServed : List RawGroup → List Bool → Type 0
AreServed groups served = (label : ℤ) → IsTrue (is_served served label) ↔ HasMember groups label

-- ---- lists

-- those of some lists that name atom x
abbrev pub lists_for : List ElementList → ℕ → List ElementList
lists_for lists x = filter (λ list. listed_atom list == x) lists

-- the note on an atom that these lists name: whether there are any, and whether all have known
-- members
pub record IsListMark (lists : List ElementList) (mark : ListMark) : Type 0 where
  pub listed : IsTrue mark.listed ↔ (lists ≢ [])
  pub known : IsTrue mark.known ↔ All HasKnownMembers lists
