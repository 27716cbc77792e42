-- Names: each atom of an expansion is named by the way to it through the drawings, and the names say
-- which atoms stand there, in which order, and which bonds join them. No place is counted here, and
-- no slot has a number.
--     Name                          copy j of atom x, an atom of the member at x, or hydrogen k at x
--     Stand                         what stands for an atom of a template
--     stand query t choice x        what stands for atom x of template t by a choice
--     IsNameThere query t choice name         an atom of this name stands there
--     IsNameBefore name other                 the order of names
--     IsEndAt query t choice x y name         the bond from x to y ends there on the side of x
--     IsAtomNamed query t choice name atom    the atom of this name, with its free ends
--     AreJoinedHere, AreJoinedNames           a bond joins two named atoms
--     AreAsNamed query t choice atoms bonds   the atoms and bonds are those that the names say
use Rattle.std.specs.Prelude.{◌≡◌, ◌≤◌, ◌<◌, ◌+◌, ◌-◌, ◌==◌, ◌&&◌, ◌||◌, ◌⊎◌, ◌↔◌, ℕ, Bool, true, false, List, [], ◌∷◌, Some, Contains, IsTrue, count_by, length, slice_get, slice_index, if◌then◌else◌}
use Rattle.std.specs.List.{list_any}
use Rattle.mk_model.specs.declared.graph.GraphAtom.{GraphAtom}
use Rattle.mk_model.specs.declared.template.QueryBond.{QueryBond}
use Rattle.mk_model.specs.declared.template.Slot.{Slot}
use Rattle.mk_model.specs.declared.template.Slot.TheVariants.{Link, Site}
use Rattle.mk_model.specs.Codes.{Choice}
use Rattle.mk_model.specs.Codes.Choice.{repeated, unfilled, filled}
use Rattle.mk_model.specs.Expansions.{hydrogen, template_of}
use Rattle.mk_model.specs.Labels.{draws_rest_hydrogens, member}
use Rattle.mk_model.specs.Pieces.{is_far}
use Rattle.mk_model.specs.Queries.{QueryView, slots_of}
use Rattle.mk_model.specs.QueryFits.{IsAtomOf}
use Rattle.mk_model.specs.Sizes.{takes_atom}
use Rattle.mk_model.specs.Templates.{TemplateView, is_in_block, joins, neighbour_count}

-- The name of an atom is the way to it from the template that is drawn: copy j of atom x of the
-- template; an atom of the member that fills site x, by its name in the member's drawing; or
-- hydrogen k at site x. A fixed atom is the one copy of itself.
pub data Name : Type 0 where
  CopyOf : ℕ → ℕ → Name
  InMember : ℕ → Name → Name
  HydrogenAt : ℕ → ℕ → Name

-- ---- what stands for an atom

-- For an atom of a template stand so many copies of it, the template of a member by a choice at its
-- slots, so many hydrogens, or nothing.
pub data Stand : Type 0 where
  Times : ℕ → Stand
  ByMember : ℕ → Choice → Stand
  ByHydrogens : ℕ → Stand
  Vacant : Stand

-- what stands for an unfilled site: a hydrogen for each neighbour where its label says so
abbrev pub unfilled_stand : QueryView → Slot → Stand
unfilled_stand query site = if draws_rest_hydrogens query site then ByHydrogens (neighbour_count site) else Vacant

-- what stands for the atoms of these slots by a choice, in order
unfoldable pub stands_of : QueryView → List Slot → Choice → List Stand
stands_of query (slot ∷ slots) (repeated n others) = Times n ∷ stands_of query slots others
stands_of query (slot ∷ slots) (unfilled n others) = unfilled_stand query slot ∷ stands_of query slots others
stands_of query (slot ∷ slots) (filled k within others) =
    ByMember (member query slot k) within ∷ stands_of query slots others
stands_of query slots choice = []

-- what stands for atom x where these stand for these slots: what stands for the first of them that
-- takes the atom, and one copy where none does
abbrev pub stand_among : TemplateView → ℕ → List Slot → List Stand → Stand
stand_among template x [] stands = Times 1
stand_among template x (slot ∷ slots) [] = Times 1
stand_among template x (slot ∷ slots) (s ∷ stands) =
    let later = stand_among template x slots stands in
    if takes_atom template x slot then s else later

-- what stands for atom x of template t: what is chosen at the site there or at the link in whose
-- block it is, and one copy where it is fixed
unfoldable pub stand : QueryView → ℕ → Choice → ℕ → Stand
stand query t choice x =
    stand_among (template_of query t) x (template_of query t).slots (stands_of query (slots_of query t) choice)

-- ---- the names, and their order

-- the copy of this number stands
abbrev pub IsCopyThere : Stand → ℕ → Type 0
IsCopyThere (Times n) j = (1 ≤ j) × (j ≤ n)
IsCopyThere (ByMember u within) j = ⊥
IsCopyThere (ByHydrogens n) j = ⊥
IsCopyThere Vacant j = ⊥

-- the hydrogen of this number stands
abbrev pub IsHydrogenThere : Stand → ℕ → Type 0
IsHydrogenThere (Times n) k = ⊥
IsHydrogenThere (ByMember u within) k = ⊥
IsHydrogenThere (ByHydrogens n) k = (1 ≤ k) × (k ≤ n)
IsHydrogenThere Vacant k = ⊥

-- an atom of this name stands in the drawing of template t by a choice
abbrev pub IsNameThere : QueryView → ℕ → Choice → Name → Type 0
IsNameThere query t choice (CopyOf x j) = IsAtomOf (template_of query t) x × IsCopyThere (stand query t choice x) j
IsNameThere query t choice (InMember x name) =
    IsAtomOf (template_of query t) x
    × (u : ℕ) × (within : Choice) × (stand query t choice x ≡ ByMember u within) × IsNameThere query u within name
IsNameThere query t choice (HydrogenAt x k) = IsAtomOf (template_of query t) x × IsHydrogenThere (stand query t choice x) k

-- the atom of the template in whose place the named atom stands
abbrev pub own_atom : Name → ℕ
own_atom (CopyOf x j) = x
own_atom (InMember x name) = x
own_atom (HydrogenAt x k) = x

-- Names are ordered by the atoms of the template; in the place of one atom, copies and hydrogens by
-- their numbers, and the atoms of a member as in the member.
abbrev pub IsNameBefore : Name → Name → Type 0
IsNameBefore (CopyOf x j) (CopyOf y k) = (x < y) ⊎ ((x ≡ y) × (j < k))
IsNameBefore (InMember x name) (InMember y other) = (x < y) ⊎ ((x ≡ y) × IsNameBefore name other)
IsNameBefore (HydrogenAt x j) (HydrogenAt y k) = (x < y) ⊎ ((x ≡ y) × (j < k))
IsNameBefore name other = own_atom name < own_atom other

-- ---- ends, and free ends

-- The near or the far end of what stands for atom x: the first or the last copy, the member's atom
-- with attachment point 1 or 2, the first or the second hydrogen. Nothing has no end.
abbrev pub IsEnd : QueryView → ℕ → Stand → Bool → Name → Type 0
IsEnd query x (Times n) far name = name ≡ CopyOf x (if far then n else 1)
IsEnd query x (ByMember u within) far name =
    name ≡ InMember x (CopyOf (slice_index (template_of query u).points (if far then 1 else 0)) 1)
IsEnd query x (ByHydrogens n) far name = name ≡ HydrogenAt x (if far then 2 else 1)
IsEnd query x Vacant far name = ⊥

-- y is the second neighbour of the slot that stands at x, so the bond between them is at its far end
abbrev pub faces_far : QueryView → ℕ → ℕ → ℕ → Bool
faces_far query t x y = list_any (λ slot. is_far slot x y) (template_of query t).slots

-- the bond from x to y ends at the named atom on the side of x
abbrev pub IsEndAt : QueryView → ℕ → Choice → ℕ → ℕ → Name → Type 0
IsEndAt query t choice x y name = IsEnd query x (stand query t choice x) (faces_far query t x y) name

-- copy j of an atom is the one at which the bonds end that face this end
abbrev pub is_end_copy : Stand → Bool → ℕ → Bool
is_end_copy (Times n) far j = (if far then n else 1) == j
is_end_copy (ByMember u within) far j = false
is_end_copy (ByHydrogens n) far j = false
is_end_copy Vacant far j = false

-- nothing stands there
abbrev pub is_vacant : Stand → Bool
is_vacant (Times n) = false
is_vacant (ByMember u within) = false
is_vacant (ByHydrogens n) = false
is_vacant Vacant = true

-- the slot is a vacant site with atom x as a neighbour, and the bond between them would end at copy j
abbrev pub frees : QueryView → ℕ → Choice → ℕ → ℕ → Slot → Bool
frees query t choice x j (Link atom most from to) = false
frees query t choice x j (Site atom groups first second) =
    is_vacant (stand query t choice atom)
    && (((first == x) || (second == x)) && is_end_copy (stand query t choice x) (faces_far query t x atom) j)

-- ---- the named atom

-- The atom has this name: a copy has the test of its atom, and a free end for each vacant site whose
-- bond would end there; an atom of a member is what it is in the member's drawing.
abbrev pub IsAtomNamed : QueryView → ℕ → Choice → Name → GraphAtom → Type 0
IsAtomNamed query t choice (CopyOf x j) atom =
    (slice_get (template_of query t).atoms (x - 1) ≡ Some atom.test)
    × (atom.free ≡ count_by (frees query t choice x j) (template_of query t).slots)
IsAtomNamed query t choice (InMember x name) atom =
    (u : ℕ) × (within : Choice) × (stand query t choice x ≡ ByMember u within) × IsAtomNamed query u within name atom
IsAtomNamed query t choice (HydrogenAt x k) atom = atom ≡ hydrogen

-- ---- bonds

-- the name is that of a hydrogen in the place of a site
abbrev pub names_hydrogen : Name → Bool
names_hydrogen (CopyOf x j) = false
names_hydrogen (InMember x name) = false
names_hydrogen (HydrogenAt x k) = true

-- both ends of the bond are in the block of one link
abbrev pub is_in_one_block : TemplateView → QueryBond → Bool
is_in_one_block template bond =
    list_any (λ slot. is_in_block template slot bond.first && is_in_block template slot bond.second) template.slots

-- The bond has the type and the topology of this one, or is single, in or out of rings, where an end
-- is a hydrogen.
pub record IsAsDrawn (bond : QueryBond) (name other : Name) (kind topology : ℕ) : Type 0 where
  pub kind_is : kind ≡ (if names_hydrogen name || names_hydrogen other then 1 else bond.kind)
  pub topology_is : topology ≡ (if names_hydrogen name || names_hydrogen other then 0 else bond.topology)

-- A bond of the template, or of one of its chains, joins two named atoms, the first of them before the
-- other.
pub data AreJoinedHere (query : QueryView) (t : ℕ) (choice : Choice) (name other : Name) (kind topology : ℕ) : Type 0 where
  -- a bond inside a block stands between copies of equal number
  AlongBlock : (bond : QueryBond) (x y j : ℕ) → Contains (template_of query t).bonds bond → IsTrue (joins x y bond)
      → is_in_one_block (template_of query t) bond ≡ true → name ≡ CopyOf x j → other ≡ CopyOf y j
      → IsAsDrawn bond name other kind topology → AreJoinedHere query t choice name other kind topology
  -- each copy of a link is joined to the next one, as the link is to its neighbour `from`
  AlongChain : (bond : QueryBond) (atom most from to j : ℕ) → Contains (template_of query t).slots (Link atom most from to)
      → Contains (template_of query t).bonds bond → IsTrue (joins atom from bond)
      → name ≡ CopyOf atom j → other ≡ CopyOf atom (j + 1)
      → IsAsDrawn bond name other kind topology → AreJoinedHere query t choice name other kind topology
  -- any other bond goes from end to end, and there is none where nothing stands
  EndToEnd : (bond : QueryBond) (x y : ℕ) → Contains (template_of query t).bonds bond → IsTrue (joins x y bond)
      → is_in_one_block (template_of query t) bond ≡ false → IsEndAt query t choice x y name → IsEndAt query t choice y x other
      → IsAsDrawn bond name other kind topology → AreJoinedHere query t choice name other kind topology

-- Two named atoms, the first of them before the other, are joined by a bond of this type and
-- topology: in the drawing of the template, or within one member as in the member's drawing.
abbrev pub AreJoinedNames : QueryView → ℕ → Choice → Name → Name → ℕ → ℕ → Type 0
AreJoinedNames query t choice (InMember x name) (InMember y other) kind topology =
    AreJoinedHere query t choice (InMember x name) (InMember y other) kind topology
    ⊎ ((x ≡ y) × (u : ℕ) × (within : Choice) × (stand query t choice x ≡ ByMember u within)
    × AreJoinedNames query u within name other kind topology)
AreJoinedNames query t choice name other kind topology = AreJoinedHere query t choice name other kind topology

-- ---- the whole

-- The atoms and bonds are those that the names say: each name has a place, and each place has one
-- name, in the order of names; at its place stands the named atom, and a bond is between two places
-- exactly where their names are joined.
pub record AreAsNamed (query : QueryView) (t : ℕ) (choice : Choice) (atoms : List GraphAtom) (bonds : List QueryBond) : Type 0 where
  pub place : Name → ℕ
  pub there : (name : Name) → IsNameThere query t choice name → (1 ≤ place name) × (place name ≤ length atoms)
  pub every : (p : ℕ) → 1 ≤ p → p ≤ length atoms → (name : Name) × IsNameThere query t choice name × (place name ≡ p)
  pub one : (name other : Name) → IsNameThere query t choice name → IsNameThere query t choice other
      → place name ≡ place other → name ≡ other
  pub in_order : (name other : Name) → IsNameThere query t choice name → IsNameThere query t choice other
      → IsNameBefore name other → place name < place other
  pub named : (name : Name) → IsNameThere query t choice name
      → (atom : GraphAtom) × (slice_get atoms (place name - 1) ≡ Some atom) × IsAtomNamed query t choice name atom
  pub joined : (name other : Name) (kind topology : ℕ) → IsNameThere query t choice name → IsNameThere query t choice other
      → place name < place other
      → Contains bonds (record { first = place name; second = place other; kind = kind; topology = topology })
      ↔ AreJoinedNames query t choice name other kind topology
