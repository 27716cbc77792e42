-- Screens: what a molecule shows of its atoms and its short paths, and what a graph needs of a
-- molecule.
--     Shown                        what a screen is taken of: the element of each atom, and the
--                                  bonds
--     shown_by_mol mol             what a molecule shows
--     shown_by_graph graph         what a graph asks for: its atoms of one element, and its bonds
--     IsPath shown path            one to four atoms, each bonded to the next
--     bit_of elements              the bit of a path whose atoms have these elements
--     IsBitOf shown b              some path has the bit
--     has_bit bits b               the bit is set in eight words
--     IsScreen shown screen        the counts and the bits are those of what is shown
--     Covers held need             each count is as great, and each bit of the need is set
--     ScreeningLosesNoHit          a molecule in which a graph has a hit covers its need
use Rattle.std.specs.Prelude.{◌≡◌, ◌≢◌, ◌≤◌, ◌<◌, ◌+◌, ◌-◌, ◌*◌, ◌/◌, ◌%◌, ◌==◌, ◌↔◌, ℕ, Bool, List, [], ◌∷◌, length, map, min, fold, count_by, slice_index, AllPairs, IsTrue}
use Rattle.std.specs.Int.{bit_at}
use Rattle.mk_model.specs.declared.atom_test.Kind.{Kind}
use Rattle.mk_model.specs.declared.atom_test.Kind.TheVariants.{Element}
use Rattle.mk_model.specs.declared.edge.Edge.{Edge}
use Rattle.mk_model.specs.declared.graph.GraphAtom.{GraphAtom}
use Rattle.mk_model.specs.declared.molecule.Atom.{Atom}
use Rattle.mk_model.specs.Edges.{Joins}
use Rattle.mk_model.specs.Graphs.{GraphView, IsGraph, graph_edges}
use Rattle.mk_model.specs.Hits.{IsHit}
use Rattle.mk_model.specs.Molecules.{IsMolecule, Molecule, edges}
use Rattle.mk_model.specs.declared.screen.Screen.{Screen}

-- ---- what is shown

-- the element of each atom, by its number, and 0 where it is of no single one; and the bonds
pub record Shown : Type 0 where
  pub elements : List ℕ
  pub bonds : List Edge

-- a molecule shows all its atoms and bonds
abbrev pub shown_by_mol : Molecule → Shown
shown_by_mol mol = record { elements = map (λ (atom : Atom). atom.element) mol.atoms; bonds = edges mol.bonds }

-- the element that a kind names alone, or 0; a list names none, not even one of a single element
abbrev pub named_element : Kind → ℕ
named_element (Element z) = z
named_element _ = 0

-- a graph shows the elements that its atoms name alone, and its bonds
abbrev pub shown_by_graph : GraphView → Shown
shown_by_graph graph = record {
  elements = map (λ (atom : GraphAtom). named_element atom.test.kind) graph.atoms;
  bonds = graph_edges graph.bonds;
}

-- ---- counts

-- the elements that are counted, in the order of their counts: B C N O F Na Mg Si P S Cl K As Se Br I
abbrev pub counted : List ℕ
counted = 5 ∷ 6 ∷ 7 ∷ 8 ∷ 9 ∷ 11 ∷ 12 ∷ 14 ∷ 15 ∷ 16 ∷ 17 ∷ 19 ∷ 33 ∷ 34 ∷ 35 ∷ 53 ∷ []

-- how many of the atoms are of an element, or 15 where there are more
abbrev pub capped_count : List ℕ → ℕ → ℕ
capped_count elements z = min 15 (count_by (λ e. e == z) elements)

-- ---- paths

-- the element of atom x
abbrev pub element_at : List ℕ → ℕ → ℕ
element_at elements x = slice_index elements (x - 1)

-- atom x is of one element, and that isn't hydrogen
abbrev pub IsNamed : Shown → ℕ → Type 0
IsNamed shown x = (1 ≤ x) × (2 ≤ element_at shown.elements x)

-- some bond joins the two atoms
abbrev pub AreJoined : List Edge → ℕ → ℕ → Type 0
AreJoined bonds x y = (b : ℕ) × Joins bonds b x y

-- one to four distinct atoms, each of one element other than hydrogen, and each bonded to the next
pub record IsPath (shown : Shown) (path : List ℕ) : Type 0 where
  pub some : 1 ≤ length path
  pub few : length path ≤ 4
  pub named : (i : ℕ) → i < length path → IsNamed shown (slice_index path i)
  pub distinct : AllPairs (λ x y. x ≢ y) path
  pub joined : (i : ℕ) → i + 1 < length path → AreJoined shown.bonds (slice_index path i) (slice_index path (i + 1))

-- The bit of a path whose atoms have these elements: from the number of atoms on, each element is
-- added to 131 times the value so far, and the end is reduced modulo 512.
abbrev pub bit_of : List ℕ → ℕ
bit_of elements = fold (λ value z. value * 131 + z) (length elements) elements % 512

-- the bit of a path
abbrev pub path_bit : Shown → List ℕ → ℕ
path_bit shown path = bit_of (map (element_at shown.elements) path)

-- some path has the bit
pub record IsBitOf (shown : Shown) (b : ℕ) : Type 0 where
  pub path : List ℕ
  pub is : IsPath shown path
  pub bit : path_bit shown path ≡ b

-- ---- screens

-- bit b is bit b mod 64 of word b / 64
abbrev pub has_bit : List ℕ → ℕ → Bool
has_bit bits b = bit_at (slice_index bits (b / 64)) (b % 64) == 1

-- each count is that of its element, and a bit is set exactly where some path has it
pub record IsScreen (shown : Shown) (screen : Screen) : Type 0 where
  pub counts : screen.counts ≡ map (capped_count shown.elements) counted
  pub bits : (b : ℕ) → b < 512 → IsTrue (has_bit screen.bits b) ↔ IsBitOf shown b

-- the screen of a molecule
abbrev pub IsScreenOf : Molecule → Screen → Type 0
IsScreenOf mol screen = IsScreen (shown_by_mol mol) screen

-- the need of a graph
abbrev pub IsNeedOf : GraphView → Screen → Type 0
IsNeedOf graph need = IsScreen (shown_by_graph graph) need

-- each count is at least the need's, and each bit of the need is set
pub record Covers (held need : Screen) : Type 0 where
  pub counts : (i : ℕ) → i < 16 → slice_index need.counts i ≤ slice_index held.counts i
  pub bits : (b : ℕ) → b < 512 → IsTrue (has_bit need.bits b) → IsTrue (has_bit held.bits b)

-- ---- the law

-- where a graph has a hit in a molecule, the molecule's screen covers the graph's need
abbrev pub ScreeningLosesNoHit : Type 0
ScreeningLosesNoHit =
    (graph : GraphView) (mol : Molecule) (hit : List ℕ) (held need : Screen) → IsGraph graph → IsMolecule mol
    → IsHit graph mol hit → IsScreenOf mol held → IsNeedOf graph need → Covers held need
