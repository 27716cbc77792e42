-- The graph of an open code: what the expansions of all codes that complete it have in common.
--     IsOpenGraph query open graph       the graph is that of the open code
--     open_expansion query t choice      what template t becomes by an open choice at its slots
--     open_pieces query slots choice     what the slots become
--     opened template pieces             what the template becomes where its slots have become these
--                                        pieces
--     opens_one_ended query slots choice     each slot that an open choice leaves open has one neighbour
--     loose_ends template pieces p       how many bonds end at place p and lead to nothing
--     shared_atom, shared_bond           an atom and a bond with the tests that all completions share
use Rattle.std.specs.Prelude.{true, false, ◌≡◌, ◌+◌, ◌-◌, ◌==◌, ◌&&◌, ◌||◌, not, ℕ, ℤ, pos, negsuc, zero, suc, Bool, List, [], ◌∷◌, length, map, replicate, count_by, slice_index_or, if◌then◌else◌}
use Rattle.std.specs.List.{flat_map}
use Rattle.std.specs.List.Sorted.{IsPermutation}
use Rattle.mk_model.specs.declared.graph.GraphAtom.{GraphAtom}
use Rattle.mk_model.specs.declared.template.QueryBond.{QueryBond}
use Rattle.mk_model.specs.declared.template.Slot.{Slot}
use Rattle.mk_model.specs.declared.template.Slot.TheVariants.{Link, Site}
use Rattle.mk_model.specs.Expansions.{anything, hydrogen, is_nothing, joined, left_open, template_of, unmarked}
use Rattle.mk_model.specs.Graphs.{GraphView, IsGraph}
use Rattle.mk_model.specs.Labels.{member}
use Rattle.mk_model.specs.Pieces.{Fragment, Piece, ending, numbers_to, piece}
use Rattle.mk_model.specs.Pieces.Piece.{Copies, Member, Hydrogens, Nothing}
use Rattle.mk_model.specs.Queries.{QueryView, slots_of}
use Rattle.mk_model.specs.Templates.{TemplateView}
use Rattle.mk_expand.specs.OpenCodes.{OpenChoice, IsOpenChoice, open_spelling}
use Rattle.mk_expand.specs.OpenCodes.OpenChoice.{undecided, repeats, vacates, fills}

-- ---- loose ends

-- nothing stands for y, and the bond from x to y would end at place p on the side of x
abbrev pub leads_off : TemplateView → List Piece → ℕ → ℕ → ℕ → Bool
leads_off template pieces p x y =
    is_nothing (piece template pieces y) && (not (is_nothing (piece template pieces x)) && (ending template pieces x y == p))

-- the bond has one end at place p, and nothing stands where the other end would be
abbrev pub is_loose : TemplateView → List Piece → ℕ → QueryBond → Bool
is_loose template pieces p bond = leads_off template pieces p bond.first bond.second || leads_off template pieces p bond.second bond.first

-- how many bonds of the template end at place p and lead to nothing: each is a free end there
unfoldable pub loose_ends : TemplateView → List Piece → ℕ → ℕ
loose_ends template pieces p = count_by (is_loose template pieces p) template.bonds

-- ---- atoms

-- the atoms of the piece that atom x becomes, before the free ends of the template are counted:
-- copies of it, those of the member with the free ends that they have inside it, or hydrogens
abbrev pub bare_atoms : TemplateView → ℕ → Piece → List GraphAtom
bare_atoms template x (Copies n) = replicate n (record { test = slice_index_or template.atoms (x - 1) anything; free = 0 })
bare_atoms template x (Member part) = part.atoms
bare_atoms template x (Hydrogens n) = replicate n hydrogen
bare_atoms template x Nothing = []

-- atoms from place p on, each with its loose ends as free ends
abbrev pub loosened : TemplateView → List Piece → ℕ → List GraphAtom → List GraphAtom
loosened template pieces p [] = []
loosened template pieces p (atom ∷ atoms) =
    record { test = atom.test; free = atom.free + loose_ends template pieces p } ∷ loosened template pieces (p + 1) atoms

-- the atoms that the first n atoms of the template become, in order and without its free ends
unfoldable pub bare_atoms_of : TemplateView → List Piece → ℕ → List GraphAtom
bare_atoms_of template pieces n = flat_map (λ x. bare_atoms template x (piece template pieces x)) (numbers_to n)

-- ---- a template, and the whole

-- What the template becomes where its slots have become these pieces, and any of them may be nothing:
-- its atoms, bonds and points are those of an expansion, and each bond that leads to nothing is a free
-- end of the atom at its other end.
unfoldable pub opened : TemplateView → List Piece → Fragment
opened template pieces = record {
  atoms = loosened template pieces 1 (bare_atoms_of template pieces (length template.atoms));
  bonds = (joined template pieces).bonds;
  points = (joined template pieces).points;
}

-- What the slots become by an open choice, in order: nothing where a slot is left open, and else what
-- they become in an expansion.
unfoldable pub open_pieces : QueryView → List Slot → OpenChoice → List Piece
open_pieces query (slot ∷ slots) (undecided others) = Nothing ∷ open_pieces query slots others
open_pieces query (slot ∷ slots) (repeats n others) = Copies n ∷ open_pieces query slots others
open_pieces query (slot ∷ slots) (vacates n others) = left_open query slot ∷ open_pieces query slots others
open_pieces query (slot ∷ slots) (fills k inside others) =
    let t = member query slot k in
    Member (opened (template_of query t) (open_pieces query (slots_of query t) inside)) ∷ open_pieces query slots others
open_pieces query slots choice = []

-- what template t becomes by an open choice at its slots
unfoldable pub open_expansion : QueryView → ℕ → OpenChoice → Fragment
open_expansion query t choice = opened (template_of query t) (open_pieces query (slots_of query t) choice)

-- ---- whether a ring may close through an open slot

-- the slot has one neighbour: it is a site that names no second one
abbrev pub is_one_ended : Slot → Bool
is_one_ended (Link atom most from to) = false
is_one_ended (Site atom groups first second) = second == 0

-- Each slot that the choice leaves open has one neighbour, inside members too. So whatever comes to
-- stand there hangs by a bridge, and no ring closes through it.
abbrev pub opens_one_ended : QueryView → List Slot → OpenChoice → Bool
opens_one_ended query (slot ∷ slots) (undecided others) = is_one_ended slot && opens_one_ended query slots others
opens_one_ended query (slot ∷ slots) (repeats n others) = opens_one_ended query slots others
opens_one_ended query (slot ∷ slots) (vacates n others) = opens_one_ended query slots others
opens_one_ended query (slot ∷ slots) (fills k inside others) =
    opens_one_ended query (slots_of query (member query slot k)) inside && opens_one_ended query slots others
opens_one_ended query slots choice = true

-- ---- the tests that all completions share

-- Ring bonds as drawn are asked for where no ring closes through an open slot, and else not.
abbrev pub shared_rings : Bool → ℤ → ℤ
shared_rings stays (pos n) = pos n
shared_rings stays (negsuc zero) = negsuc zero
shared_rings stays (negsuc (suc n)) = if stays then negsuc (suc n) else pos 0

-- an atom that asks for ring bonds as drawn only where they stay
abbrev pub shared_atom : Bool → GraphAtom → GraphAtom
shared_atom stays atom = record { test = record atom.test { ring_bonds = shared_rings stays atom.test.ring_bonds }; free = atom.free }

-- where a ring may close through an open slot, a single bond may become aromatic by it, and so may a
-- double bond
abbrev pub shared_kind : Bool → ℕ → ℕ
shared_kind stays kind = if stays then kind else (if kind == 1 then 6 else (if kind == 2 then 7 else kind))

-- a bond that is also met by an aromatic one, where it is single or double and may become aromatic
abbrev pub shared_bond : Bool → QueryBond → QueryBond
shared_bond stays bond = record { first = bond.first; second = bond.second; kind = shared_kind stays bond.kind; topology = bond.topology }

-- The graph has the atoms and the bonds that the root becomes by the open choice that the numbers
-- spell, the bonds in order and with the marks of the graph that they are. Tests stay as asked where
-- each slot that is left open has one neighbour, and are weaker else.
pub record IsOpenGraph (query : QueryView) (open_code : List ℕ) (graph : GraphView) : Type 0 where
  pub choice : OpenChoice
  pub made : IsOpenChoice query (slots_of query 0) choice
  pub spelt : open_spelling choice ≡ open_code
  pub kept : IsGraph graph
  pub atoms : graph.atoms ≡ map (shared_atom (opens_one_ended query (slots_of query 0) choice)) (open_expansion query 0 choice).atoms
  pub bonds : IsPermutation (map (shared_bond (opens_one_ended query (slots_of query 0) choice)) (open_expansion query 0 choice).bonds) (map unmarked graph.bonds)
