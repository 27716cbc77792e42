-- Plain hydrogens of a graph and of a molecule.
--     host_only        what is bonded to a plain hydrogen of a graph is one atom, by one bond
--     one_host         so it is one on one atom alone
--     neighbour_only   the same in a molecule
--     host_in_range, plain_in_range      they are atoms, and so is what they are bonded to
--     no_host          what bears one is none
--     IsBeside mol m y hydrogen y is bonded to atom m by a single bond
--     plain_beside, image_beside         a plain hydrogen is, and so is the image of one
--     regrouped        an embedding stays one where plain hydrogens go to others beside their atoms
use Rattle.std.proofs.Common.{◌≡◌, ◌≢◌, ◌≤◌, ◌<◌, ◌+◌, ◌-◌, ℕ, suc, pos, Bool, true, false, eqb, List, Option, Some, None, refl, ap, sym, subst, ◌∙◌, inl, inr, length, get_or, map, arith, All, AllPairs, Contains, IsTrue}
use Rattle.std.specs.Prelude.{◌&&◌, ◌==◌, slice_get}
use Rattle.std.proofs.lemmas.Bool.Decides.{nat_tests}
use Rattle.std.proofs.lemmas.List.{get_or-map, get_or_default, length-map}
use Rattle.std.proofs.lemmas.List.Elements.{Contains-get_or}
use Rattle.mk_text.proofs.ForCallers.{both}
use Rattle.mk_model.specs.declared.atom_test.Kind.TheVariants.{Element}
use Rattle.mk_model.specs.declared.edge.Edge.{Edge}
use Rattle.mk_model.specs.declared.graph.GraphAtom.{GraphAtom}
use Rattle.mk_model.specs.declared.graph.GraphBond.{GraphBond}
use Rattle.mk_model.specs.declared.molecule.Atom.{Atom}
use Rattle.mk_model.specs.declared.molecule.MolBond.{MolBond}
use Rattle.mk_model.specs.Edges.{HasEnds, IsBetween, Joins, degree}
use Rattle.mk_model.specs.Molecules.{IsBondOf, IsMolecule, Molecule, edge_of, edges}
use Rattle.mk_model.specs.Graphs.{GraphView, IsGraph, graph_edge, graph_edges}
use Rattle.mk_model.specs.Tests.{accepts, asked_kind, is_single, meets, takes_kind, takes_topology}
use Rattle.mk_model.specs.Fitting.{FitsAtom, LiesOn, is_drawn_hydrogen, is_hydrogen}
use Rattle.mk_model.specs.Hits.{IsEmbedding, IsPlainAt, IsPlainDrawn, image}
use Rattle.mk_model.proofs.EdgesLemmas.{touches-ends}
use Rattle.mk_model.proofs.PlaceLemmas.{all_at, at_place, bonds_between, drawn_between}
use Rattle.mk_model.proofs.LoneBondLemmas.{ends_back, lone_not_aromatic, one_neighbour}
use Rattle.mk_model.proofs.DecidedLemmas.{Told, told_below, told_drawn}

-- ---- bonds of any kind, seen as edges

-- what stands in a list stands at its place
at_its_place : {B : Type 0} (bonds : List B) (bond : B) (has : Contains bonds bond) → slice_get bonds has.0 ≡ Some bond
at_its_place bonds bond has = at_place bonds has.0 bond has.1 ∙ ap Some has.2

-- and its edge among the edges
edge_at_place : {B : Type 0} (edge : B → Edge) (bonds : List B) (bond : B) (has : Contains bonds bond) → slice_get (map edge bonds) has.0 ≡ Some (edge bond)
edge_at_place edge bonds bond has =
    at_place (map edge bonds) has.0 (edge bond) (omega (arith, has.1, length-map bonds edge))
    ∙ ap Some (get_or-map edge bonds has.0 bond (edge bond) has.1 ∙ ap edge has.2)

-- of an atom with one bond all bonds are that one, and lead to one atom
same_bond : {B : Type 0} (edge : B → Edge) (bonds : List B) (n x y : ℕ) (bond other : B) → degree (map edge bonds) n ≡ 1
    → Contains bonds bond → Contains bonds other → HasEnds (edge bond) n x → HasEnds (edge other) n y → (other ≡ bond) × (y ≡ x)
same_bond edge bonds n x y bond other one has also ends its =
    let here : Joins (map edge bonds) has.0 n x = record { edge = edge bond; at = edge_at_place edge bonds bond has; ends = ends } in
    let there : Joins (map edge bonds) also.0 n y = record { edge = edge other; at = edge_at_place edge bonds other also; ends = its } in
    let same = one_neighbour (map edge bonds) n has.0 also.0 x y one here there in
    (sym also.2 ∙ ap (λ k. get_or bonds k other) (sym same.0) ∙ get_or_default bonds has.0 other bond has.1 ∙ has.2, sym same.1)

-- ---- of a graph

-- what is bonded to a plain hydrogen is its one atom, by its one bond
pub host_only : (graph : GraphView) (x h y : ℕ) (bond : GraphBond) (is : IsPlainDrawn graph x h) → Contains graph.bonds bond → HasEnds (graph_edge bond) y h
    → (bond ≡ is.bond) × (y ≡ x)
host_only graph x h y bond is has ends =
    same_bond graph_edge graph.bonds h x y is.bond bond is.alone is.drawn has (ends_back (graph_edge is.bond) x h is.ends) (ends_back (graph_edge bond) y h ends)

-- so it is one on one atom alone
pub one_host : (graph : GraphView) (x y h : ℕ) → IsPlainDrawn graph x h → IsPlainDrawn graph y h → y ≡ x
one_host graph x y h is also = (host_only graph x h y also.bond is also.drawn also.ends).1

-- what bears a plain hydrogen is none itself
pub no_host : (graph : GraphView) (x h y : ℕ) → IsPlainDrawn graph x h → IsPlainDrawn graph y x → ⊥
no_host graph x h y is also =
    let drawn : is_drawn_hydrogen graph.atoms x ≡ true = rw (also.asked_at, also.test.kind) refl in
    let not = is.other in
    cc

-- a plain hydrogen and what it is bonded to are atoms
pub host_in_range : (graph : GraphView) (x h : ℕ) → IsGraph graph → IsPlainDrawn graph x h
    → ((1 ≤ x) × (x ≤ length graph.atoms)) × ((1 ≤ h) × (h ≤ length graph.atoms))
host_in_range graph x h drawing is =
    let between : IsBetween (length graph.atoms) (graph_edge is.bond) =
    all_at (λ (bond : GraphBond). IsBetween (length graph.atoms) (graph_edge bond)) graph.bonds is.drawn.0 is.bond (drawn_between graph drawing) (at_its_place graph.bonds is.bond is.drawn) in
    by_ends is.ends between
  where
    by_ends : HasEnds (graph_edge is.bond) x h → IsBetween (length graph.atoms) (graph_edge is.bond)
        → ((1 ≤ x) × (x ≤ length graph.atoms)) × ((1 ≤ h) × (h ≤ length graph.atoms))
    by_ends (inl e) b = ((omega (arith, e.0, b.first.0), omega (arith, e.0, b.first.1)), (omega (arith, e.1, b.second.0), omega (arith, e.1, b.second.1)))
    by_ends (inr e) b = ((omega (arith, e.1, b.second.0), omega (arith, e.1, b.second.1)), (omega (arith, e.0, b.first.0), omega (arith, e.0, b.first.1)))

-- its bond isn't aromatic
drawn_mark : (graph : GraphView) (x h : ℕ) → IsGraph graph → (is : IsPlainDrawn graph x h) → is.bond.aromatic ≡ false
drawn_mark graph x h drawing is = by_mark is.bond.aromatic refl
  where
    by_mark : (b : Bool) → is.bond.aromatic ≡ b → is.bond.aromatic ≡ false
    by_mark false e = e
    by_mark true e =
        absurd (lone_not_aromatic (graph_edges graph.bonds) is.drawn.0 h (graph_edge is.bond) is.alone (edge_at_place graph_edge graph.bonds is.bond is.drawn)
        (touches-ends (graph_edge is.bond) h x (ends_back (graph_edge is.bond) x h is.ends)) is.single.0
        ((drawing.marks is.drawn.0 is.bond (at_its_place graph.bonds is.bond is.drawn)).aromatic.0 e))

-- so a bond meets its test exactly where it is a single one
asks_single : (graph : GraphView) (x h : ℕ) → IsGraph graph → (is : IsPlainDrawn graph x h) → asked_kind is.bond ≡ 1
asks_single graph x h drawing is = rw (drawn_mark graph x h drawing is) is.single.0

-- a single bond meets such a test
meets_single : (asked : GraphBond) (bond : MolBond) → asked_kind asked ≡ 1 → asked.topology ≡ 0 → IsTrue (is_single bond) → IsTrue (meets asked bond)
meets_single asked bond kind topology single = rw (kind, topology, single) refl

-- ---- of a molecule

-- what is bonded to a plain hydrogen is its one atom, by its one bond
pub neighbour_only : (mol : Molecule) (m y n : ℕ) (bond : MolBond) (is : IsPlainAt mol m y) → IsBondOf mol n y bond → (bond ≡ is.bond) × (n ≡ m)
neighbour_only mol m y n bond is joins =
    same_bond edge_of mol.bonds y m n is.bond bond is.alone is.joins.0 joins.0 (ends_back (edge_of is.bond) m y is.joins.1) (ends_back (edge_of bond) n y joins.1)

pub plain_in_range : (mol : Molecule) (m y : ℕ) → IsMolecule mol → IsPlainAt mol m y → (1 ≤ y) × (y ≤ length mol.atoms)
plain_in_range mol m y molecule is =
    by_ends is.joins.1
    (all_at (λ (bond : MolBond). IsBetween (length mol.atoms) (edge_of bond)) mol.bonds is.joins.0.0 is.bond (bonds_between mol molecule) (at_its_place mol.bonds is.bond is.joins.0))
  where
    by_ends : HasEnds (edge_of is.bond) m y → IsBetween (length mol.atoms) (edge_of is.bond) → (1 ≤ y) × (y ≤ length mol.atoms)
    by_ends (inl e) b = (omega (arith, e.1, b.second.0), omega (arith, e.1, b.second.1))
    by_ends (inr e) b = (omega (arith, e.0, b.first.0), omega (arith, e.0, b.first.1))

-- hydrogen y is bonded to atom m by a single bond
pub record IsBeside (mol : Molecule) (m y : ℕ) : Type 0 where
  pub hydrogen : IsTrue (is_hydrogen mol.atoms y)
  pub bond : MolBond
  pub joins : IsBondOf mol m y bond
  pub single : IsTrue (is_single bond)

-- a plain hydrogen is
pub plain_beside : (mol : Molecule) (m y : ℕ) → IsMolecule mol → IsPlainAt mol m y → IsBeside mol m y
plain_beside mol m y molecule is = record {
  hydrogen = is.hydrogen;
  bond = is.bond;
  joins = is.joins;
  single = rw (is.single, no_mark is.bond.aromatic refl) refl;
}
  where
    no_mark : (b : Bool) → is.bond.aromatic ≡ b → is.bond.aromatic ≡ false
    no_mark false e = e
    no_mark true e =
        absurd (lone_not_aromatic (edges mol.bonds) is.joins.0.0 y (edge_of is.bond) is.alone (edge_at_place edge_of mol.bonds is.bond is.joins.0)
        (touches-ends (edge_of is.bond) y m (ends_back (edge_of is.bond) m y is.joins.1)) is.single
        ((molecule.marks is.joins.0.0 is.bond (at_its_place mol.bonds is.bond is.joins.0)).aromatic.0 e))

-- ---- embeddings

-- the atom that is told to be hydrogen
hydrogen_at : (mol : Molecule) (y : ℕ) (found : Option Atom) → slice_get mol.atoms (y - 1) ≡ found → is_hydrogen mol.atoms y ≡ true
    → (atom : Atom) × (slice_get mol.atoms (y - 1) ≡ Some atom) × (atom.element ≡ 1)
hydrogen_at mol y None at is = absurd (let none : is_hydrogen mol.atoms y ≡ false = rw at refl in cc)
hydrogen_at mol y (Some atom) at is = (atom, at, one (let there : (atom.element == 1) ≡ true = rw at at is in there))
  where
    one : (atom.element == 1) ≡ true → atom.element ≡ 1
    one same = grind (arith, nat_tests)

-- any hydrogen meets the test of a plain one
fits_plain : (graph : GraphView) (mol : Molecule) (x h y : ℕ) → IsPlainDrawn graph x h → IsTrue (is_hydrogen mol.atoms y) → FitsAtom graph mol h y
fits_plain graph mol x h y is hydrogen =
    let there = hydrogen_at mol y (slice_get mol.atoms (y - 1)) refl hydrogen in
    record {
      asked = is.asked;
      asked_at = is.asked_at;
      atom = there.0;
      atom_at = there.1;
      kind = rw (is.test.kind, there.2) refl;
      charge = rw is.test.charge refl;
      radical = rw is.test.radical refl;
      hydrogens = rw is.test.hydrogens refl;
      ring_bonds = rw is.test.ring_bonds refl;
      substitution = rw is.test.substitution refl;
      unsaturation = rw is.test.unsaturated refl;
    }

-- what meets the test of a plain hydrogen is one
image_hydrogen : (graph : GraphView) (mol : Molecule) (x h y : ℕ) → IsPlainDrawn graph x h → FitsAtom graph mol h y → IsTrue (is_hydrogen mol.atoms y)
image_hydrogen graph mol x h y is fits =
    let same : fits.asked ≡ is.asked = let there = fits.asked_at in let here = is.asked_at in cc in
    let kind : IsTrue (accepts is.asked.test.kind fits.atom.element) = subst (λ (a : GraphAtom). IsTrue (accepts a.test.kind fits.atom.element)) same fits.kind in
    let one : (1 == fits.atom.element) ≡ true = rw is.test.kind at kind in
    rw fits.atom_at (turned fits.atom.element one)
  where
    turned : (z : ℕ) → (1 == z) ≡ true → (z == 1) ≡ true
    turned z same = grind (arith, nat_tests)

-- the image of a plain hydrogen is a hydrogen beside the image of its atom
pub image_beside : (graph : GraphView) (mol : Molecule) (images : List ℕ) (x h : ℕ) → IsGraph graph → IsEmbedding graph mol images → IsPlainDrawn graph x h
    → IsBeside mol (image images x) (image images h)
image_beside graph mol images x h drawing embedding is =
    let lies : LiesOn mol is.bond (image images is.bond.first) (image images is.bond.second) =
    all_at (λ (bond : GraphBond). LiesOn mol bond (image images bond.first) (image images bond.second)) graph.bonds is.drawn.0 is.bond embedding.bonds
    (at_its_place graph.bonds is.bond is.drawn) in
    let range = host_in_range graph x h drawing is in
    record {
      hydrogen = image_hydrogen graph mol x h (image images h) is (embedding.atoms h range.1.0 range.1.1);
      bond = lies.bond;
      joins = (lies.joins.0, by_ends is.ends (edge_of lies.bond) lies.joins.1);
      single = (both (takes_kind 1 lies.bond) (takes_topology is.bond.topology lies.bond) (rw (asks_single graph x h drawing is) at lies.meets)).0;
    }
  where
    by_ends : HasEnds (graph_edge is.bond) x h → (edge : Edge) → HasEnds edge (image images is.bond.first) (image images is.bond.second) → HasEnds edge (image images x) (image images h)
    by_ends (inl e) edge ends =
        subst (λ (n : ℕ). HasEnds edge (image images x) (image images n)) e.1 (subst (λ (n : ℕ). HasEnds edge (image images n) (image images is.bond.second)) e.0 ends)
    by_ends (inr e) edge ends =
        ends_back edge (image images h) (image images x)
        (subst (λ (n : ℕ). HasEnds edge (image images h) (image images n)) e.1 (subst (λ (n : ℕ). HasEnds edge (image images n) (image images is.bond.second)) e.0 ends))

-- ---- other hydrogens

module _ (graph : GraphView) (mol : Molecule) (drawing : IsGraph graph) (images others : List ℕ) (embedding : IsEmbedding graph mol images)
    (agree : (e : ℕ) → 1 ≤ e → e ≤ length graph.atoms → ((x : ℕ) → IsPlainDrawn graph x e → ⊥) → image images e ≡ image others e)
    (beside : (x h : ℕ) → IsPlainDrawn graph x h → IsBeside mol (image images x) (image others h)) where
  -- whether an atom is a plain hydrogen
  told_hydrogen : (e : ℕ) → Told ((x : ℕ) × (x < length graph.atoms + 1) × IsPlainDrawn graph x e)
  told_hydrogen e = told_below (λ x. IsPlainDrawn graph x e) (λ x. told_drawn graph x e) (length graph.atoms + 1)

  none_of : (e : ℕ) → ((x : ℕ) × (x < length graph.atoms + 1) × IsPlainDrawn graph x e → ⊥) → (x : ℕ) → IsPlainDrawn graph x e → ⊥
  none_of e not x is = not (x, (let range = host_in_range graph x e drawing is in omega (arith, range.0.1)), is)

  atoms_regrouped : (e : ℕ) → 1 ≤ e → e ≤ length graph.atoms → FitsAtom graph mol e (image others e)
  atoms_regrouped e least most = elim (told_hydrogen e) [
    | inl is ↦ fits_plain graph mol is.0 e (image others e) is.2 (beside is.0 e is.2).hydrogen
    | inr not ↦ subst (λ (n : ℕ). FitsAtom graph mol e n) (agree e least most (none_of e not)) (embedding.atoms e least most)
  ]

  -- a bond of a plain hydrogen lies on the one that is beside
  bond_regrouped : (x h : ℕ) (bond : GraphBond) (is : IsPlainDrawn graph x h) → bond ≡ is.bond → (edge_there : (edge : Edge) → HasEnds edge (image others x) (image others h)
      → HasEnds edge (image others bond.first) (image others bond.second)) → LiesOn mol bond (image others bond.first) (image others bond.second)
  bond_regrouped x h bond is same ends =
      let range = host_in_range graph x h drawing is in
      let near = beside x h is in
      let host : image images x ≡ image others x = agree x range.0.0 range.0.1 (λ y also. no_host graph x h y is also) in
      let joined : HasEnds (edge_of near.bond) (image others x) (image others h) = subst (λ (n : ℕ). HasEnds (edge_of near.bond) n (image others h)) host near.joins.1 in
      record {
        bond = near.bond;
        joins = (near.joins.0, ends (edge_of near.bond) joined);
        meets = subst (λ (b : GraphBond). IsTrue (meets b near.bond)) (sym same) (meets_single is.bond near.bond (asks_single graph x h drawing is) is.single.1 near.single);
      }

  bonds_regrouped : All (λ bond. LiesOn mol bond (image others bond.first) (image others bond.second)) graph.bonds
  bonds_regrouped k d below =
      by_first (told_drawn graph bond.first bond.second) (told_drawn graph bond.second bond.first)
    where
      bond : GraphBond
      bond = get_or graph.bonds k d

      has : Contains graph.bonds bond
      has = Contains-get_or graph.bonds k d below

      apart : IsBetween (length graph.atoms) (graph_edge bond)
      apart = drawn_between graph drawing k d below

      first_same : (IsPlainDrawn graph bond.second bond.first → ⊥) → image images bond.first ≡ image others bond.first
      first_same not =
          agree bond.first apart.first.0 apart.first.1
          (λ x is. not (subst (λ (n : ℕ). IsPlainDrawn graph n bond.first) (sym (host_only graph x bond.first bond.second bond is has (inr (refl, refl))).1) is))

      second_same : (IsPlainDrawn graph bond.first bond.second → ⊥) → image images bond.second ≡ image others bond.second
      second_same not =
          agree bond.second apart.second.0 apart.second.1
          (λ x is. not (subst (λ (n : ℕ). IsPlainDrawn graph n bond.second) (sym (host_only graph x bond.second bond.first bond is has (inl (refl, refl))).1) is))

      by_first : Told (IsPlainDrawn graph bond.first bond.second) → Told (IsPlainDrawn graph bond.second bond.first)
          → LiesOn mol bond (image others bond.first) (image others bond.second)
      by_first (inl is) other = bond_regrouped bond.first bond.second bond is (host_only graph bond.first bond.second bond.first bond is has (inl (refl, refl))).0 (λ edge ends. ends)
      by_first (inr not) (inl is) =
          bond_regrouped bond.second bond.first bond is (host_only graph bond.second bond.first bond.second bond is has (inr (refl, refl))).0
          (λ edge ends. ends_back edge (image others bond.second) (image others bond.first) ends)
      by_first (inr not) (inr nor) =
          subst (λ (n : ℕ). LiesOn mol bond n (image others bond.second)) (first_same nor)
          (subst (λ (n : ℕ). LiesOn mol bond (image images bond.first) n) (second_same not) (embedding.bonds k d below))

  -- an embedding stays one where plain hydrogens go to others beside their atoms
  pub regrouped : length others ≡ length images → All (λ a. (1 ≤ a) × (a ≤ length mol.atoms)) others → AllPairs (λ a b. a ≢ b) others → IsEmbedding graph mol others
  regrouped size within distinct = record {
    one_each = size ∙ embedding.one_each;
    within = within;
    distinct = distinct;
    atoms = atoms_regrouped;
    bonds = bonds_regrouped;
  }
