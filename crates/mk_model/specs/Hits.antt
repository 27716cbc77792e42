-- The hits of a graph in a molecule.
--     image hit x                     the atom on which atom x of the graph lies
--     IsEmbedding graph mol images    one atom of the molecule for each atom of the graph, distinct,
--                                     and every test is met
--     HasNoEmbedding graph mol        there is none
--     IsPlainDrawn graph x h          atom h of the graph is a plain hydrogen on atom x
--     IsPlainAt mol m y               atom y of the molecule is a plain hydrogen on atom m
--     IsHit graph mol hit             an embedding that takes the first free plain hydrogens, in order
--     AreHits graph mol hits          the rising list of all hits
--     AgreeButPlain graph a b         the same atoms but for plain hydrogens of the graph
--     EmbeddingsHaveHits              each embedding has a hit that agrees with it
--     HitsAreOneByHydrogens           hits that agree are one, where plain hydrogens lie on such
use Rattle.std.specs.Prelude.{◌≡◌, ◌≢◌, ◌-◌, ◌≤◌, ◌<◌, ℕ, pos, false, not, List, Some, length, slice_get, slice_index, All, AllPairs, Contains, IsTrue}
use Rattle.mk_text.specs.Rising.{IsRisingListOfAll}
use Rattle.mk_model.specs.declared.atom_test.AtomTest.{AtomTest}
use Rattle.mk_model.specs.declared.atom_test.Kind.TheVariants.{Element}
use Rattle.mk_model.specs.declared.graph.GraphAtom.{GraphAtom}
use Rattle.mk_model.specs.declared.graph.GraphBond.{GraphBond}
use Rattle.mk_model.specs.declared.molecule.MolBond.{MolBond}
use Rattle.mk_model.specs.Edges.{HasEnds, degree}
use Rattle.mk_model.specs.Molecules.{IsBondOf, IsMolecule, Molecule, edges}
use Rattle.mk_model.specs.Graphs.{GraphView, IsGraph, graph_edge, graph_edges}
use Rattle.mk_model.specs.Fitting.{FitsAtom, LiesOn, is_drawn_hydrogen, is_hydrogen}

-- the atom of the molecule on which atom x of the graph lies
abbrev pub image : List ℕ → ℕ → ℕ
image hit x = slice_index hit (x - 1)

-- one atom of the molecule for each atom of the graph, all distinct, every atom test met, and every
-- bond of the graph on a bond that meets its test
pub record IsEmbedding (graph : GraphView) (mol : Molecule) (images : List ℕ) : Type 0 where
  pub one_each : length images ≡ length graph.atoms
  pub within : All (λ a. (1 ≤ a) × (a ≤ length mol.atoms)) images
  pub distinct : AllPairs (λ a b. a ≢ b) images
  pub atoms : (x : ℕ) → 1 ≤ x → x ≤ length graph.atoms → FitsAtom graph mol x (image images x)
  pub bonds : All (λ bond. LiesOn mol bond (image images bond.first) (image images bond.second)) graph.bonds

-- no list of atoms is one
abbrev pub HasNoEmbedding : GraphView → Molecule → Type 0
HasNoEmbedding graph mol = (images : List ℕ) → IsEmbedding graph mol images → ⊥

-- ---- plain hydrogens

-- hydrogen is asked for, and nothing else
pub record IsPlainTest (test : AtomTest) : Type 0 where
  pub kind : test.kind ≡ Element 1
  pub charge : test.charge ≡ pos 0
  pub radical : test.radical ≡ 0
  pub hydrogens : test.hydrogens ≡ 0
  pub ring_bonds : test.ring_bonds ≡ pos 0
  pub substitution : test.substitution ≡ pos 0
  pub unsaturated : test.unsaturated ≡ false

-- Atom h of the graph is a plain hydrogen on atom x, which is no drawn hydrogen itself: hydrogen is
-- asked for and nothing else, and its one bond leads to x, has type 1 and asks for no topology.
pub record IsPlainDrawn (graph : GraphView) (x h : ℕ) : Type 0 where
  pub asked : GraphAtom
  pub asked_at : slice_get graph.atoms (h - 1) ≡ Some asked
  pub test : IsPlainTest asked.test
  pub bond : GraphBond
  pub drawn : Contains graph.bonds bond
  pub ends : HasEnds (graph_edge bond) x h
  pub single : (bond.kind ≡ 1) × (bond.topology ≡ 0)
  pub alone : degree (graph_edges graph.bonds) h ≡ 1
  pub other : is_drawn_hydrogen graph.atoms x ≡ false

-- atom y of the molecule is a plain hydrogen on atom m: a hydrogen whose one bond leads to m and has
-- type 1
pub record IsPlainAt (mol : Molecule) (m y : ℕ) : Type 0 where
  pub hydrogen : IsTrue (is_hydrogen mol.atoms y)
  pub bond : MolBond
  pub joins : IsBondOf mol m y bond
  pub single : bond.kind ≡ 1
  pub alone : degree (edges mol.bonds) y ≡ 1

-- ---- hits

-- An embedding that takes plain hydrogens in order. On each atom x of the graph, the images of its
-- plain hydrogens rise; and where one of them lies on a plain hydrogen of x's image, each plain
-- hydrogen there that is below it is an atom of the hit. So what lies on the hydrogens of a methyl is
-- one hit and not one for each order of them.
pub record IsHit (graph : GraphView) (mol : Molecule) (hit : List ℕ) : Type 0 where
  pub one_each : length hit ≡ length graph.atoms
  pub within : All (λ a. (1 ≤ a) × (a ≤ length mol.atoms)) hit
  pub distinct : AllPairs (λ a b. a ≢ b) hit
  pub atoms : (x : ℕ) → 1 ≤ x → x ≤ length graph.atoms → FitsAtom graph mol x (image hit x)
  pub bonds : All (λ bond. LiesOn mol bond (image hit bond.first) (image hit bond.second)) graph.bonds
  pub rise : (x h later : ℕ) → IsPlainDrawn graph x h → IsPlainDrawn graph x later → h < later → image hit h < image hit later
  pub first_free : (x h y : ℕ) → IsPlainDrawn graph x h → IsPlainAt mol (image hit x) (image hit h) → IsPlainAt mol (image hit x) y → y < image hit h
      → Contains hit y

-- all hits, in rising order
abbrev pub AreHits : GraphView → Molecule → List (List ℕ) → Type 0
AreHits graph mol hits = IsRisingListOfAll (IsHit graph mol) hits

-- ---- laws

-- the atoms of the graph but its plain hydrogens lie on the same atoms
abbrev pub AgreeButPlain : GraphView → List ℕ → List ℕ → Type 0
AgreeButPlain graph a b = (e : ℕ) → 1 ≤ e → e ≤ length graph.atoms → ((x : ℕ) → IsPlainDrawn graph x e → ⊥) → image a e ≡ image b e

-- each plain hydrogen of the graph lies on a plain hydrogen
abbrev pub LiesPlain : GraphView → Molecule → List ℕ → Type 0
LiesPlain graph mol hit = (x h : ℕ) → IsPlainDrawn graph x h → IsPlainAt mol (image hit x) (image hit h)

-- Each embedding has a hit that agrees with it at all atoms but plain hydrogens. So a molecule has a
-- hit exactly where it has an embedding.
abbrev pub EmbeddingsHaveHits : Type 0
EmbeddingsHaveHits =
    (graph : GraphView) (mol : Molecule) (images : List ℕ) → IsGraph graph → IsMolecule mol → IsEmbedding graph mol images
    → (hit : List ℕ) × IsHit graph mol hit × AgreeButPlain graph images hit

-- two hits that agree at all atoms but plain hydrogens are one, where all plain hydrogens lie on
-- plain hydrogens
abbrev pub HitsAreOneByHydrogens : Type 0
HitsAreOneByHydrogens =
    (graph : GraphView) (mol : Molecule) (a b : List ℕ) → IsGraph graph → IsMolecule mol → IsHit graph mol a → IsHit graph mol b
    → AgreeButPlain graph a b → LiesPlain graph mol a → LiesPlain graph mol b → a ≡ b
