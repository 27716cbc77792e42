-- The plain program: it tries all lists of atoms.
--     is_plain_drawn graph x h   atom h of the graph is a plain hydrogen on atom x
--     is_plain_at mol m y        atom y of the molecule is a plain hydrogen on atom m
--     is_hit graph mol hit       the tests of a hit, for one atom for each atom of the graph
--     hits_of graph mol          the lists that pass, in rising order
--     HitsAreListed              they are the rising list of all hits
use Rattle.std.specs.Prelude.{◌-◌, ◌+◌, ◌==◌, ◌&&◌, ◌||◌, nat_lt, pos, ℕ, Bool, true, false, not, List, [], ◌∷◌, Option, Some, None, length, filter, slice_get}
use Rattle.std.specs.List.{list_all, list_any}
use Rattle.std.specs.Ordering.{int_eq}
use Rattle.mk_text.specs.Choices.{choices}
use Rattle.mk_model.specs.declared.atom_test.AtomTest.{AtomTest}
use Rattle.mk_model.specs.declared.edge.Edge.{Edge}
use Rattle.mk_model.specs.declared.graph.GraphAtom.{GraphAtom}
use Rattle.mk_model.specs.declared.graph.GraphBond.{GraphBond}
use Rattle.mk_model.specs.declared.molecule.Atom.{Atom}
use Rattle.mk_model.specs.Edges.{degree}
use Rattle.mk_model.specs.Molecules.{Molecule, edge_of, edges}
use Rattle.mk_model.specs.Graphs.{GraphView, graph_edge, graph_edges}
use Rattle.mk_model.specs.Tests.{accepts, charge_fits, hydrogens_fit, meets, radical_fits, ring_bonds_fit, substitution_fits, unsaturation_fits}
use Rattle.mk_model.specs.Fitting.{drawn_hydrogens, drawn_others, drawn_rings, hydrogens_at, is_drawn_hydrogen, is_hydrogen, is_hydrogen_kind, is_unsaturated_at, others_at, passes_at, rings_at}
use Rattle.mk_model.specs.Hits.{AreHits, image}

-- every test of atom x, which asks this, is met by atom m, which is this
abbrev pub meets_all : GraphView → Molecule → ℕ → ℕ → GraphAtom → Atom → Bool
meets_all graph mol x m asked atom =
    (accepts asked.test.kind atom.element && (charge_fits asked.test.charge atom.charge && radical_fits asked.test.radical atom.radical))
    && (hydrogens_fit asked.test.hydrogens (drawn_hydrogens graph x) asked.free (hydrogens_at mol m)
    && (ring_bonds_fit asked.test.ring_bonds (drawn_rings graph x) (rings_at mol m)
    && (substitution_fits asked.test.substitution (drawn_others graph x) asked.free (others_at mol m)
    && unsaturation_fits asked.test.unsaturated (is_unsaturated_at mol m))))

-- there are such atoms, and every test of atom x is met by atom m
abbrev pub meets_some : GraphView → Molecule → ℕ → ℕ → Option GraphAtom → Option Atom → Bool
meets_some graph mol x m None atom = false
meets_some graph mol x m (Some asked) None = false
meets_some graph mol x m (Some asked) (Some atom) = meets_all graph mol x m asked atom

-- atom x of the graph accepts atom m of the molecule
abbrev pub fits_atom : GraphView → Molecule → ℕ → ℕ → Bool
fits_atom graph mol x m = meets_some graph mol x m (slice_get graph.atoms (x - 1)) (slice_get mol.atoms (m - 1))

-- the ends of a bond are a and b, in either order
abbrev pub has_ends : Edge → ℕ → ℕ → Bool
has_ends edge a b = ((edge.first == a) && (edge.second == b)) || ((edge.first == b) && (edge.second == a))

-- a bond of the molecule joins a and b and meets the test
abbrev pub lies_on : Molecule → GraphBond → ℕ → ℕ → Bool
lies_on mol asked a b = list_any (λ bond. has_ends (edge_of bond) a b && meets asked bond) mol.bonds

-- no atom stands twice
abbrev pub are_distinct : List ℕ → Bool
are_distinct [] = true
are_distinct (a ∷ others) = not (list_any (λ b. b == a) others) && are_distinct others

-- the atoms from number x on are accepted, one by one
abbrev pub atoms_fit : GraphView → Molecule → ℕ → List ℕ → Bool
atoms_fit graph mol x [] = true
atoms_fit graph mol x (a ∷ others) = fits_atom graph mol x a && atoms_fit graph mol (x + 1) others

-- each bond of the graph lies on a bond that meets its test
abbrev pub bonds_fit : GraphView → Molecule → List ℕ → Bool
bonds_fit graph mol hit = list_all (λ asked. lies_on mol asked (image hit asked.first) (image hit asked.second)) graph.bonds

-- ---- plain hydrogens

-- hydrogen is asked for, and nothing else
abbrev pub is_plain_test : AtomTest → Bool
is_plain_test test =
    is_hydrogen_kind test.kind
    && (int_eq test.charge (pos 0)
    && ((test.radical == 0)
    && ((test.hydrogens == 0)
    && (int_eq test.ring_bonds (pos 0)
    && (int_eq test.substitution (pos 0)
    && not test.unsaturated)))))

-- the bond has type 1 and asks for no topology
abbrev pub is_plain_bond : GraphBond → Bool
is_plain_bond bond = (bond.kind == 1) && (bond.topology == 0)

-- atom h of the graph is a plain hydrogen on atom x
abbrev pub is_plain_drawn : GraphView → ℕ → ℕ → Bool
is_plain_drawn graph x h =
    passes_at (λ atom. is_plain_test atom.test) graph.atoms h
    && (list_any (λ bond. has_ends (graph_edge bond) x h && is_plain_bond bond) graph.bonds
    && ((degree (graph_edges graph.bonds) h == 1)
    && not (is_drawn_hydrogen graph.atoms x)))

-- atom y of the molecule is a plain hydrogen on atom m
abbrev pub is_plain_at : Molecule → ℕ → ℕ → Bool
is_plain_at mol m y =
    is_hydrogen mol.atoms y
    && (list_any (λ bond. has_ends (edge_of bond) m y && (bond.kind == 1)) mol.bonds
    && (degree (edges mol.bonds) y == 1))

-- every atom that has a bond passes
abbrev pub each_bonded : List Edge → (ℕ → Bool) → Bool
each_bonded bonds test = list_all (λ edge. test edge.first && test edge.second) bonds

-- where two atoms are plain hydrogens on x, the image of the later one is above the other's
abbrev pub rises_at : GraphView → List ℕ → ℕ → ℕ → ℕ → Bool
rises_at graph hit x h later =
    not (is_plain_drawn graph x h && (is_plain_drawn graph x later && nat_lt h later)) || nat_lt (image hit h) (image hit later)

-- on each atom of the graph, the images of its plain hydrogens rise
abbrev pub images_rise : GraphView → List ℕ → Bool
images_rise graph hit =
    each_bonded (graph_edges graph.bonds)
    (λ x. each_bonded (graph_edges graph.bonds) (λ h. each_bonded (graph_edges graph.bonds) (λ later. rises_at graph hit x h later)))

-- where a plain hydrogen on x lies on one of x's image, and y is another there below it, y is an atom
-- of the hit
abbrev pub takes_lower_at : GraphView → Molecule → List ℕ → ℕ → ℕ → ℕ → Bool
takes_lower_at graph mol hit x h y =
    not (is_plain_drawn graph x h && (is_plain_at mol (image hit x) (image hit h) && (is_plain_at mol (image hit x) y && nat_lt y (image hit h))))
    || list_any (λ a. a == y) hit

-- the first free plain hydrogens are taken
abbrev pub takes_first : GraphView → Molecule → List ℕ → Bool
takes_first graph mol hit =
    each_bonded (graph_edges graph.bonds)
    (λ x. each_bonded (graph_edges graph.bonds) (λ h. each_bonded (edges mol.bonds) (λ y. takes_lower_at graph mol hit x h y)))

-- ---- the hits

-- the tests of a hit
unfoldable pub is_hit : GraphView → Molecule → List ℕ → Bool
is_hit graph mol hit =
    (are_distinct hit && (atoms_fit graph mol 1 hit && bonds_fit graph mol hit))
    && (images_rise graph hit && takes_first graph mol hit)

-- the lists of one atom for each atom of the graph that pass, in rising order
unfoldable pub hits_of : GraphView → Molecule → List (List ℕ)
hits_of graph mol = filter (is_hit graph mol) (choices (length mol.atoms) (length graph.atoms))

-- `hits_of` is the rising list of all hits: so there is such a list for every graph and molecule
abbrev pub HitsAreListed : Type 0
HitsAreListed = (graph : GraphView) (mol : Molecule) → AreHits graph mol (hits_of graph mol)
