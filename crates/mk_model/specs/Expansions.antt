-- Expansions: the graphs that a query stands for, one for each structural code.
--     IsExpansion query code graph      the graph is the expansion of the query by the code
--     expansion query t choice          what template t becomes by a choice at its slots
--     pieces_of query slots choice      what the slots become
--     joined template pieces            what the template becomes where its slots have become these
--                                       pieces
--     drawn template pieces bond        the bonds that a bond of it becomes
--     bonds_within bonds before slot piece    the bonds within what a slot has become
--     atoms_of template pieces n        the atoms that its first n atoms become
--     free_ends template pieces slots pieces p    how many free ends the atom at place p has
use Rattle.std.specs.Prelude.{◌≡◌, ◌+◌, ◌-◌, ◌==◌, ◌&&◌, ◌||◌, nat_lt, not, ℕ, Bool, true, false, pos, List, [], ◌∷◌, ◌++◌, Option, Some, None, Contains, length, map, replicate, slice_get, slice_index_or, sum_by, if◌then◌else◌}
use Rattle.std.specs.List.{flat_map, zip}
use Rattle.mk_model.specs.declared.atom_test.AtomTest.{AtomTest}
use Rattle.mk_model.specs.declared.atom_test.Kind.TheVariants.{Element, Anything}
use Rattle.mk_model.specs.declared.graph.GraphAtom.{GraphAtom}
use Rattle.mk_model.specs.declared.graph.GraphBond.{GraphBond}
use Rattle.mk_model.specs.declared.template.QueryBond.{QueryBond}
use Rattle.mk_model.specs.declared.template.Slot.{Slot}
use Rattle.mk_model.specs.declared.template.Slot.TheVariants.{Link, Site}
use Rattle.mk_model.specs.Codes.{Choice, IsChoice, spelling}
use Rattle.mk_model.specs.Codes.Choice.{repeated, unfilled, filled}
use Rattle.mk_model.specs.Graphs.{GraphView, IsGraph}
use Rattle.mk_model.specs.Labels.{draws_rest_hydrogens, member}
use Rattle.mk_model.specs.Pieces.{Fragment, Piece, before, ending, numbers_to, piece, taker, width}
use Rattle.mk_model.specs.Pieces.Piece.{Copies, Member, Hydrogens, Nothing}
use Rattle.mk_model.specs.Queries.{QueryView, slots_of}
use Rattle.mk_model.specs.Templates.{TemplateView, joins, neighbour_count, slot_atom}

-- ---- bonds

-- a bond between x and y, its lower end first
abbrev pub bond_between : ℕ → ℕ → ℕ → ℕ → QueryBond
bond_between x y kind topology =
    if nat_lt x y then record { first = x; second = y; kind = kind; topology = topology }
    else record { first = y; second = x; kind = kind; topology = topology }

-- one slot takes both ends of the bond: it is inside a link's block
abbrev pub is_inside : TemplateView → QueryBond → Bool
is_inside template bond = not (taker template bond.first == 0) && (taker template bond.first == taker template bond.second)

-- between n copies behind place x and n behind place y: a bond like this one between each two
-- copies of equal number
unfoldable pub copied : QueryBond → ℕ → ℕ → ℕ → List QueryBond
copied bond x y n = map (λ j. bond_between (x + j) (y + j) bond.kind bond.topology) (numbers_to n)

-- the piece is nothing
abbrev pub is_nothing : Piece → Bool
is_nothing Nothing = true
is_nothing piece = false

-- the piece is hydrogens
abbrev pub is_hydrogens : Piece → Bool
is_hydrogens (Hydrogens n) = true
is_hydrogens piece = false

-- A bond between x and y of two pieces: none where a piece is nothing, a single bond in or out of
-- rings at a hydrogen, else one of the bond's type and topology.
abbrev pub spanned : Piece → Piece → QueryBond → ℕ → ℕ → List QueryBond
spanned p q bond x y =
    if is_nothing p || is_nothing q then []
    else (if is_hydrogens p || is_hydrogens q then bond_between x y 1 0 ∷ []
    else bond_between x y bond.kind bond.topology ∷ [])

-- the bonds that a bond of the template becomes: inside a block one for each copy, else one between
-- two pieces
unfoldable pub drawn : TemplateView → List Piece → QueryBond → List QueryBond
drawn template pieces bond =
    if is_inside template bond then
    copied bond (before template pieces bond.first) (before template pieces bond.second) (width (piece template pieces bond.first))
    else spanned (piece template pieces bond.first) (piece template pieces bond.second) bond
    (ending template pieces bond.first bond.second) (ending template pieces bond.second bond.first)

-- the first of the bonds that joins x and y
abbrev pub bond_joining : List QueryBond → ℕ → ℕ → QueryBond
bond_joining [] x y = record { first = x; second = y; kind = 1; topology = 0 }
bond_joining (bond ∷ bonds) x y = let later = bond_joining bonds x y in if joins x y bond then bond else later

-- each of n atoms behind place x joined to the next one by a bond like this one
unfoldable pub chained : QueryBond → ℕ → ℕ → List QueryBond
chained bond x n =
    map (λ j. record { first = x + j; second = x + j + 1; kind = bond.kind; topology = bond.topology }) (numbers_to n)

-- the bond with so many atoms put in front: the numbers of its ends rise by as many
abbrev pub shifted : ℕ → QueryBond → QueryBond
shifted by bond = record { first = by + bond.first; second = by + bond.second; kind = bond.kind; topology = bond.topology }

-- The bonds within what a slot has become, behind so many atoms: each copy of a link is joined to
-- the next one by a bond like the link's to its neighbour `from`, and the bonds of a member stand
-- as they are.
abbrev pub bonds_within : List QueryBond → ℕ → Slot → Piece → List QueryBond
bonds_within bonds before (Link atom most from to) (Copies n) = chained (bond_joining bonds atom from) before (n - 1)
bonds_within bonds before (Site atom groups first second) (Member part) = map (shifted before) part.bonds
bonds_within bonds before slot piece = []

-- the bonds within what these slots have become, each with its piece
unfoldable pub all_within : TemplateView → List Piece → List Slot → List Piece → List QueryBond
all_within template pieces slots ps =
    flat_map (λ s. bonds_within template.bonds (before template pieces (slot_atom s.0)) s.0 s.1) (zip slots ps)

-- ---- atoms

-- 1 where there is an atom x and its bond to the site ends at place p, else 0
abbrev pub ends_there : TemplateView → List Piece → ℕ → ℕ → ℕ → ℕ
ends_there template pieces p site x = if not (x == 0) && (ending template pieces x site == p) then 1 else 0

-- how many free ends a slot leaves at place p: a site that has become nothing leaves one at each of
-- its neighbours
abbrev pub frees_of : TemplateView → List Piece → ℕ → Slot → Piece → ℕ
frees_of template pieces p (Site atom groups first second) Nothing =
    ends_there template pieces p atom first + ends_there template pieces p atom second
frees_of template pieces p slot piece = 0

-- how many free ends these slots leave at place p, each with its piece
unfoldable pub free_ends : TemplateView → List Piece → List Slot → List Piece → ℕ → ℕ
free_ends template pieces slots ps p = sum_by (λ s. frees_of template pieces p s.0 s.1) (zip slots ps)

-- n atoms with this test behind place x, each with its free ends
unfoldable pub copies : TemplateView → List Piece → AtomTest → ℕ → ℕ → List GraphAtom
copies template pieces test x n =
    map (λ j. record { test = test; free = free_ends template pieces template.slots pieces (x + j) }) (numbers_to n)

-- the test that any atom meets
abbrev pub anything : AtomTest
anything = record {
  kind = Anything;
  charge = pos 0;
  radical = 0;
  hydrogens = 0;
  ring_bonds = pos 0;
  substitution = pos 0;
  unsaturated = false;
}

-- a hydrogen, with every other test off and no free end
abbrev pub hydrogen : GraphAtom
hydrogen = record { test = record anything { kind = Element 1 }; free = 0 }

-- the atoms of the piece that atom x becomes: copies of it, those of the member, or hydrogens
abbrev pub atoms_of_piece : TemplateView → List Piece → ℕ → Piece → List GraphAtom
atoms_of_piece template pieces x (Copies n) =
    copies template pieces (slice_index_or template.atoms (x - 1) anything) (before template pieces x) n
atoms_of_piece template pieces x (Member part) = part.atoms
atoms_of_piece template pieces x (Hydrogens n) = replicate n hydrogen
atoms_of_piece template pieces x Nothing = []

-- the atoms that the first n atoms become, each in its place
unfoldable pub atoms_of : TemplateView → List Piece → ℕ → List GraphAtom
atoms_of template pieces n = flat_map (λ x. atoms_of_piece template pieces x (piece template pieces x)) (numbers_to n)

-- ---- a template, and the whole

-- what the template becomes where its slots have become these pieces
unfoldable pub joined : TemplateView → List Piece → Fragment
joined template pieces = record {
  atoms = atoms_of template pieces (length template.atoms);
  bonds = flat_map (drawn template pieces) template.bonds ++ all_within template pieces template.slots pieces;
  points = map (λ x. before template pieces x + 1) template.points;
}

-- template t, and one without atoms where there is no such template
abbrev pub template_of : QueryView → ℕ → TemplateView
template_of query t = found (slice_get query.templates t)
  where
    found : Option TemplateView → TemplateView
    found None = record { atoms = []; bonds = []; slots = []; points = [] }
    found (Some template) = template

-- an unfilled site becomes a hydrogen for each of its neighbours where hydrogens are drawn there,
-- else nothing
abbrev pub left_open : QueryView → Slot → Piece
left_open query site = if draws_rest_hydrogens query site then Hydrogens (neighbour_count site) else Nothing

-- What the slots become by a choice, in order: a link copies, an unfilled site hydrogens or
-- nothing, and a filled one what its member becomes by the choice inside. A choice that isn't one
-- at these slots makes nothing.
unfoldable pub pieces_of : QueryView → List Slot → Choice → List Piece
pieces_of query (slot ∷ slots) (repeated n others) = Copies n ∷ pieces_of query slots others
pieces_of query (Site atom groups first second ∷ slots) (unfilled n others) =
    left_open query (Site atom groups first second) ∷ pieces_of query slots others
pieces_of query (Site atom groups first second ∷ slots) (filled k inside others) =
    let t = member query (Site atom groups first second) k in
    Member (joined (template_of query t) (pieces_of query (slots_of query t) inside)) ∷ pieces_of query slots others
pieces_of query slots choice = []

-- what template t becomes by a choice at its slots
unfoldable pub expansion : QueryView → ℕ → Choice → Fragment
expansion query t choice = joined (template_of query t) (pieces_of query (slots_of query t) choice)

-- a bond of a graph without its marks
abbrev pub unmarked : GraphBond → QueryBond
unmarked bond = record { first = bond.first; second = bond.second; kind = bond.kind; topology = bond.topology }

-- The graph has the atoms and the bonds that the root becomes by the choice that the code spells,
-- the bonds in order and with the marks of the graph that they are.
pub record IsExpansion (query : QueryView) (code : List ℕ) (graph : GraphView) : Type 0 where
  pub choice : Choice
  pub made : IsChoice query (slots_of query 0) choice
  pub spelt : spelling choice ≡ code
  pub kept : IsGraph graph
  pub atoms : graph.atoms ≡ (expansion query 0 choice).atoms
  pub each : (bond : GraphBond) → Contains graph.bonds bond → Contains (expansion query 0 choice).bonds (unmarked bond)
  pub all : (bond : QueryBond) → Contains (expansion query 0 choice).bonds bond → Contains (map unmarked graph.bonds) bond
