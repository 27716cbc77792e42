-- Plain hydrogens of a graph and of a molecule.
--     only_bond                 the one bond of an atom, by its number
--     one_host, one_host_at     a plain hydrogen is on one atom
--     host_found, test_passes .. leads_elsewhere       whether a drawn atom is one, as the code asks
--     found_at, element_is .. is_single_at             and whether an atom of the molecule is
--     begins_free               the first atoms of a hit leave no hydrogen free, but for later takers
--     listed_none .. listed_all the list of a graph's plain hydrogens
--     due_starts .. due_ends    the last atom that may take a hydrogen
use Rattle.std.proofs.Common.{◌≡◌, ℕ, ◌+◌, ◌<◌, ◌≤◌, ◌-◌, inl, inr, true, false, not, eqb, eq-eqb, List, [], ◌∷◌, ◌++◌, length, get_or, map, Some, pos, refl, sym, ap, subst, ◌∙◌, arith, All, Contains, length-append}
use Rattle.std.specs.Prelude.{slice_get}
use Rattle.std.specs.Ordering.{int_eq}
use Rattle.std.proofs.Math.ListN.{get_or-append}
use Rattle.std.proofs.Math.Seq.{get_or-append_seam}
use Rattle.std.proofs.lemmas.Bool.{cases_lt, cases_eq}
use Rattle.std.proofs.lemmas.Bool.Decides.{Decides-int_eq, nat_tests}
use Rattle.std.proofs.lemmas.List.{get_or-map, get_or_default, length-map}
use Rattle.std.proofs.lemmas.List.Elements.{All-push}
use Rattle.mk_text.proofs.ForCallers.{and_true, both, not_true}
use Rattle.mk_model.specs.declared.atom_test.AtomTest.{AtomTest}
use Rattle.mk_model.specs.declared.atom_test.Kind.{Kind}
use Rattle.mk_model.specs.declared.atom_test.Kind.TheVariants.{Element, OneOf, NoneOf, NotHydrogen, Hetero, Anything}
use Rattle.mk_model.specs.declared.edge.Edge.{Edge}
use Rattle.mk_model.specs.declared.graph.GraphAtom.{GraphAtom}
use Rattle.mk_model.specs.declared.graph.GraphBond.{GraphBond}
use Rattle.mk_model.specs.declared.molecule.Atom.{Atom}
use Rattle.mk_model.specs.declared.molecule.MolBond.{MolBond}
use Rattle.mk_model.specs.Edges.{HasEnds, IsBetween, degree, numbers_at, touches}
use Rattle.mk_model.specs.Molecules.{IsBondOf, Molecule, edge_of, edges}
use Rattle.mk_model.specs.Graphs.{GraphView, IsGraph, graph_edge, graph_edges}
use Rattle.mk_model.specs.Fitting.{LiesOn, is_drawn_hydrogen, is_hydrogen_kind}
use Rattle.mk_model.specs.Tests.{accepts}
use Rattle.mk_model.specs.Hits.{image, IsHit, IsPlainAt, IsPlainDrawn, IsPlainTest}
use Rattle.mk_model.proofs.ForCallers.{drawn_between, length-numbers_from, numbers_at-all, numbers_at-each, place_is, place_within, touches-first, touches-second}
use Rattle.mk_walk.specs.declared.hydrogens.PlainHydrogen.{PlainHydrogen}
use Rattle.mk_walk.specs.Hydrogens.{ArePlain, IsBefore, IsDue, IsEntry, IsListed, IsListedOn, IsTaker, JoinsAt, LeadsTo, LeavesNoneFree}
use Rattle.mk_walk.specs.Plain.{is_plain_bond, is_plain_test}
use Rattle.mk_walk.proofs.BondCountLemmas.{one_image}
use Rattle.mk_walk.proofs.CandidateLemmas.{ends_by}
use Rattle.mk_walk.proofs.OutlookLemmas.{ends_at}

-- ---- ends of bonds

-- the ends of a bond, the other way round
pub flipped : (edge : Edge) (a b : ℕ) → HasEnds edge a b → HasEnds edge b a
flipped edge a b (inl h) = inr h
flipped edge a b (inr h) = inl h

-- a bond touches its far end
touches-far : (edge : Edge) (a b : ℕ) → HasEnds edge a b → touches b edge ≡ true
touches-far edge a b (inl h) = subst (λ (n : ℕ). touches n edge ≡ true) h.1 (touches-second edge)
touches-far edge a b (inr h) = subst (λ (n : ℕ). touches n edge ≡ true) h.0 (touches-first edge)

-- a bond has one other end
one_end : (edge : Edge) (a b n : ℕ) → HasEnds edge a n → HasEnds edge b n → a ≡ b
one_end edge a b n (inl h) (inl g) = sym h.0 ∙ g.0
one_end edge a b n (inl h) (inr g) = sym h.0 ∙ g.0 ∙ sym h.1 ∙ g.1
one_end edge a b n (inr h) (inl g) = sym h.1 ∙ g.1 ∙ sym h.0 ∙ g.0
one_end edge a b n (inr h) (inr g) = sym h.1 ∙ g.1

-- ---- the one bond of an atom

-- the number of a bond of an atom that has no other is the first of the atom's
first_number : {B : Type 0} (edge : B → Edge) (bonds : List B) (n k : ℕ) (d : B) → k < length bonds
    → touches n (edge (get_or bonds k d)) ≡ true → degree (map edge bonds) n ≡ 1 → get_or (numbers_at (map edge bonds) n) 0 0 ≡ k + 1
first_number edge bonds n k d below touched single =
    let edge_is : get_or (map edge bonds) k (edge d) ≡ edge (get_or bonds k d) = get_or-map edge bonds k d (edge d) below in
    let there : touches n (get_or (map edge bonds) k (edge d)) ≡ true = rw edge_is touched in
    let found = numbers_at-all (map edge bonds) n k (edge d) (omega (arith, length-map bonds edge)) there in
    let zeroth : found.0 ≡ 0 = omega (arith, found.1, length-numbers_from 1 (map edge bonds) n, single) in
    ap (λ (i : ℕ). get_or (numbers_at (map edge bonds) n) i 0) (sym zeroth) ∙ found.2

-- two bonds of it are one
one_bond : {B : Type 0} (edge : B → Edge) (bonds : List B) (n : ℕ) (b c : B) → Contains bonds b → Contains bonds c
    → touches n (edge b) ≡ true → touches n (edge c) ≡ true → degree (map edge bonds) n ≡ 1 → b ≡ c
one_bond {B} edge bonds n b c has_b has_c touched_b touched_c single =
    let P : B → Type 0 = λ x. touches n (edge x) ≡ true in
    let first = first_number edge bonds n has_b.0 b has_b.1 (subst P (sym has_b.2) touched_b) single in
    let second = first_number edge bonds n has_c.0 c has_c.1 (subst P (sym has_c.2) touched_c) single in
    let same : has_b.0 ≡ has_c.0 = omega (arith, first, second) in
    sym has_b.2 ∙ get_or_default bonds has_b.0 b c has_b.1 ∙ ap (λ (i : ℕ). get_or bonds i c) same ∙ has_c.2

-- the one bond of an atom
pub record IsOnlyBond {B : Type 0} (edge : B → Edge) (bonds : List B) (n : ℕ) (bond : B) : Type 0 where
  pub has : Contains bonds bond
  pub touched : touches n (edge bond) ≡ true
  pub alone : degree (map edge bonds) n ≡ 1

-- it is found by the only number in the atom's list
pub only_bond : {B : Type 0} (edge : B → Edge) (bonds : List B) (n : ℕ) (bond : B) (numbers : List ℕ) → numbers ≡ numbers_at (map edge bonds) n
    → length numbers ≡ 1 → slice_get bonds (get_or numbers 0 0 - 1) ≡ Some bond → IsOnlyBond edge bonds n bond
only_bond edge bonds n bond numbers are single there =
    let below : 0 < length (numbers_at (map edge bonds) n) = omega (arith, ap length are, single) in
    let k = get_or numbers 0 0 - 1 in
    let first : get_or (numbers_at (map edge bonds) n) 0 0 ≡ get_or numbers 0 0 = sym (ap (λ (xs : List ℕ). get_or xs 0 0) are) in
    let one = numbers_at-each (map edge bonds) n 0 below in
    let within : k < length bonds = place_within bonds k bond there in
    let here : get_or bonds k bond ≡ bond = place_is bonds k bond bond there in
    let edge_is : get_or (map edge bonds) k (edge bond) ≡ edge bond = get_or-map edge bonds k bond (edge bond) within ∙ ap edge here in
    let ends : touches n (get_or (map edge bonds) k (edge bond)) ≡ true =
    subst (λ (m : ℕ). touches n (get_or (map edge bonds) (m - 1) (edge bond)) ≡ true) first (one.ends (edge bond)) in
    record {
      has = (k, within, here);
      touched = subst (λ (e : Edge). touches n e ≡ true) edge_is ends;
      alone = omega (arith, length-numbers_from 1 (map edge bonds) n, ap length are, single);
    }

-- ---- plain hydrogens of a graph

-- the bond of a plain hydrogen is the only one
plain_bond : (graph : GraphView) (x h : ℕ) (is : IsPlainDrawn graph x h) (bond : GraphBond) → Contains graph.bonds bond → touches h (graph_edge bond) ≡ true → is.bond ≡ bond
plain_bond graph x h is bond has touched =
    one_bond graph_edge graph.bonds h is.bond bond is.drawn has (touches-far (graph_edge is.bond) x h is.ends) touched is.alone

-- a plain hydrogen is on one atom
pub one_host : (graph : GraphView) (x y h : ℕ) → IsPlainDrawn graph x h → IsPlainDrawn graph y h → x ≡ y
one_host graph x y h is other =
    let same : is.bond ≡ other.bond = plain_bond graph x h is other.bond other.drawn (touches-far (graph_edge other.bond) y h other.ends) in
    one_end (graph_edge other.bond) x y h (subst (λ (b : GraphBond). HasEnds (graph_edge b) x h) same is.ends) other.ends

-- a plain hydrogen and its atom are two of the graph's
pub record AreDrawn (graph : GraphView) (x h : ℕ) : Type 0 where
  pub host_least : 1 ≤ x
  pub host_most : x ≤ length graph.atoms
  pub least : 1 ≤ h
  pub most : h ≤ length graph.atoms

ends_drawn : (graph : GraphView) (x h : ℕ) (edge : Edge) → IsBetween (length graph.atoms) edge → HasEnds edge x h → AreDrawn graph x h
ends_drawn graph x h edge between (inl e) = record {
  host_least = omega (arith, between.first.0, e.0);
  host_most = omega (arith, between.first.1, e.0);
  least = omega (arith, between.second.0, e.1);
  most = omega (arith, between.second.1, e.1);
}
ends_drawn graph x h edge between (inr e) = record {
  host_least = omega (arith, between.second.0, e.1);
  host_most = omega (arith, between.second.1, e.1);
  least = omega (arith, between.first.0, e.0);
  most = omega (arith, between.first.1, e.0);
}

pub are_drawn : (graph : GraphView) (x h : ℕ) → IsGraph graph → IsPlainDrawn graph x h → AreDrawn graph x h
are_drawn graph x h drawing is =
    let between : IsBetween (length graph.atoms) (graph_edge is.bond) =
    subst (λ (b : GraphBond). IsBetween (length graph.atoms) (graph_edge b)) is.drawn.2 (drawn_between graph drawing is.drawn.0 is.bond is.drawn.1) in
    ends_drawn graph x h (graph_edge is.bond) between is.ends

-- a bond that joins two atoms is found by its number
pub joins_by : (graph : GraphView) (a b number : ℕ) (bond : GraphBond) → slice_get graph.bonds (number - 1) ≡ Some bond → HasEnds (graph_edge bond) a b → JoinsAt graph a b number
joins_by graph a b number bond there ends other at = (let same : bond ≡ other = cc in subst (λ (c : GraphBond). HasEnds (graph_edge c) a b) same ends)

-- ---- plain hydrogens of a molecule

-- what is bonded to a plain hydrogen is its one atom
pub beside_plain : (mol : Molecule) (m y b : ℕ) (bond : MolBond) → IsPlainAt mol m y → IsBondOf mol b y bond → b ≡ m
beside_plain mol m y b bond is joins =
    let same : is.bond ≡ bond = one_bond edge_of mol.bonds y is.bond bond is.joins.0 joins.0 (touches-far (edge_of is.bond) m y is.joins.1) (touches-far (edge_of bond) b y joins.1) is.alone in
    one_end (edge_of bond) b m y joins.1 (subst (λ (c : MolBond). HasEnds (edge_of c) m y) same is.joins.1)

-- so it is on one atom
pub one_host_at : (mol : Molecule) (m n y : ℕ) → IsPlainAt mol m y → IsPlainAt mol n y → m ≡ n
one_host_at mol m n y is other = beside_plain mol n y m is.bond other is.joins

-- ---- whether an atom of a graph is one, as the code asks

-- a kind that is hydrogen alone
kind_is : (kind : Kind) → is_hydrogen_kind kind ≡ true → kind ≡ Element 1
kind_is (Element z) passes = (let same : z ≡ 1 = grind (arith, nat_tests) in ap Element same)
kind_is (OneOf list) passes = absurd cc
kind_is (NoneOf list) passes = absurd cc
kind_is NotHydrogen passes = absurd cc
kind_is Hetero passes = absurd cc
kind_is Anything passes = absurd cc

-- numbers that pass the test are equal
number_is : (a b : ℕ) → eqb a b ≡ true → a ≡ b
number_is a b same = grind (arith, nat_tests)

-- the test for a plain test finds one
pub plain_test_found : (test : AtomTest) → is_plain_test test ≡ true → IsPlainTest test
plain_test_found test passes =
    let one = both (is_hydrogen_kind test.kind) _ passes in
    let two = both (int_eq test.charge (pos 0)) _ one.1 in
    let three = both (eqb test.radical 0) _ two.1 in
    let four = both (eqb test.hydrogens 0) _ three.1 in
    let five = both (int_eq test.ring_bonds (pos 0)) _ four.1 in
    let six = both (int_eq test.substitution (pos 0)) (not test.unsaturated) five.1 in
    record {
      kind = kind_is test.kind one.0;
      charge = (Decides-int_eq test.charge (pos 0)).0 two.0;
      radical = number_is test.radical 0 three.0;
      hydrogens = number_is test.hydrogens 0 four.0;
      ring_bonds = (Decides-int_eq test.ring_bonds (pos 0)).0 five.0;
      substitution = (Decides-int_eq test.substitution (pos 0)).0 six.0;
      unsaturated = not_true test.unsaturated six.1;
    }

-- and a plain test passes
pub plain_test_given : (test : AtomTest) → IsPlainTest test → is_plain_test test ≡ true
plain_test_given test is = rw (is.kind, is.charge, is.radical, is.hydrogens, is.ring_bonds, is.substitution, is.unsaturated) refl

module _ (graph : GraphView) (x h : ℕ) (is : IsPlainDrawn graph x h) where
  -- its test passes
  pub test_passes : (asked : GraphAtom) → slice_get graph.atoms (h - 1) ≡ Some asked → is_plain_test asked.test ≡ true
  test_passes asked there =
      let same : is.asked ≡ asked = cc in
      subst (λ (atom : GraphAtom). is_plain_test atom.test ≡ true) same (plain_test_given is.asked.test is.test)

  -- it has one bond
  pub has_one_bond : (numbers : List ℕ) → numbers ≡ numbers_at (graph_edges graph.bonds) h → length numbers ≡ 1
  has_one_bond numbers are = omega (arith, length-numbers_from 1 (graph_edges graph.bonds) h, ap length are, is.alone)

  module _ (bond : GraphBond) (only : IsOnlyBond graph_edge graph.bonds h bond) where
    -- of type 1, without topology
    pub bond_passes : is_plain_bond bond ≡ true
    bond_passes =
        let single : (bond.kind ≡ 1) × (bond.topology ≡ 0) = subst (λ (b : GraphBond). (b.kind ≡ 1) × (b.topology ≡ 0)) (plain_bond graph x h is bond only.has only.touched) is.single in
        and_true _ _ (eq-eqb bond.kind 1 single.0) (eq-eqb bond.topology 0 single.1)

    -- to an atom that is no drawn hydrogen
    pub leads_elsewhere : (host : ℕ) → HasEnds (graph_edge bond) h host → is_drawn_hydrogen graph.atoms host ≡ false
    leads_elsewhere host ends =
        let to : HasEnds (graph_edge bond) x h = subst (λ (b : GraphBond). HasEnds (graph_edge b) x h) (plain_bond graph x h is bond only.has only.touched) is.ends in
        let same : x ≡ host = one_end (graph_edge bond) x host h to (flipped (graph_edge bond) h host ends) in
        subst (λ (n : ℕ). is_drawn_hydrogen graph.atoms n ≡ false) same is.other

-- what passes all that is asked is a plain hydrogen
pub host_found : (graph : GraphView) (host h : ℕ) (bond : GraphBond) → IsOnlyBond graph_edge graph.bonds h bond → HasEnds (graph_edge bond) h host
    → (asked : GraphAtom) → slice_get graph.atoms (h - 1) ≡ Some asked → is_plain_test asked.test ≡ true → is_plain_bond bond ≡ true
    → is_drawn_hydrogen graph.atoms host ≡ false → IsPlainDrawn graph host h
host_found graph host h bond only ends asked there passes single elsewhere =
    let kinds = both (eqb bond.kind 1) (eqb bond.topology 0) single in
    record {
      asked = asked;
      asked_at = there;
      test = plain_test_found asked.test passes;
      bond = bond;
      drawn = only.has;
      ends = flipped (graph_edge bond) h host ends;
      single = (number_is bond.kind 1 kinds.0, number_is bond.topology 0 kinds.1);
      alone = only.alone;
      other = elsewhere;
    }

-- ---- whether an atom of a molecule is one, as the code asks

module _ (mol : Molecule) (m y : ℕ) (is : IsPlainAt mol m y) where
  -- it is a hydrogen
  pub element_is : (atom : Atom) → slice_get mol.atoms (y - 1) ≡ Some atom → atom.element ≡ 1
  element_is atom there = (let passes : eqb atom.element 1 ≡ true = rw there at is.hydrogen in number_is atom.element 1 passes)

  -- it has one bond
  pub has_one_bond_at : (numbers : List ℕ) → numbers ≡ numbers_at (edges mol.bonds) y → length numbers ≡ 1
  has_one_bond_at numbers are = omega (arith, length-numbers_from 1 (edges mol.bonds) y, ap length are, is.alone)

  -- of type 1
  pub is_single_at : (bond : MolBond) → IsOnlyBond edge_of mol.bonds y bond → bond.kind ≡ 1
  is_single_at bond only =
      let same : is.bond ≡ bond = one_bond edge_of mol.bonds y is.bond bond is.joins.0 only.has (touches-far (edge_of is.bond) m y is.joins.1) only.touched is.alone in
      subst (λ (b : MolBond). b.kind ≡ 1) same is.single

-- what passes all that is asked is a plain hydrogen
pub found_at : (mol : Molecule) (m y : ℕ) (bond : MolBond) → IsOnlyBond edge_of mol.bonds y bond → HasEnds (edge_of bond) y m
    → (atom : Atom) → slice_get mol.atoms (y - 1) ≡ Some atom → atom.element ≡ 1 → bond.kind ≡ 1 → IsPlainAt mol m y
found_at mol m y bond only ends atom there element kind =
    let passes : eqb atom.element 1 ≡ true = eq-eqb atom.element 1 element in
    record {
      hydrogen = rw there passes;
      bond = bond;
      joins = (only.has, flipped (edge_of bond) y m ends);
      single = kind;
      alone = only.alone;
    }

-- ---- the first atoms of a hit

module _ (graph : GraphView) (mol : Molecule) (drawing : IsGraph graph) (hit : List ℕ) (is : IsHit graph mol hit) where
  -- where an atom lies on a plain hydrogen, its neighbour lies on the atom of that
  image_beside : (bond : GraphBond) → Contains graph.bonds bond → (z e m : ℕ) → HasEnds (graph_edge bond) z e → IsPlainAt mol m (image hit e) → image hit z ≡ m
  image_beside bond has z e m ends plain =
      by_ends ends (subst (λ (b : GraphBond). LiesOn mol b (image hit b.first) (image hit b.second)) has.2 (is.bonds has.0 bond has.1))
    where
      by_ends : HasEnds (graph_edge bond) z e → LiesOn mol bond (image hit bond.first) (image hit bond.second) → image hit z ≡ m
      by_ends (inl h) lies =
          let P : ℕ → Type 0 = λ n. IsBondOf mol n (image hit bond.second) lies.bond in
          let Q : ℕ → Type 0 = λ n. IsBondOf mol (image hit z) n lies.bond in
          beside_plain mol m (image hit e) (image hit z) lies.bond plain (subst Q (ap (image hit) h.1) (subst P (ap (image hit) h.0) lies.joins))
      by_ends (inr h) lies =
          let P : ℕ → Type 0 = λ n. IsBondOf mol n (image hit bond.first) lies.bond in
          let Q : ℕ → Type 0 = λ n. IsBondOf mol (image hit z) n lies.bond in
          let back : IsBondOf mol (image hit bond.second) (image hit bond.first) lies.bond =
          (lies.joins.0, flipped (edge_of lies.bond) (image hit bond.first) (image hit bond.second) lies.joins.1) in
          beside_plain mol m (image hit e) (image hit z) lies.bond plain (subst Q (ap (image hit) h.0) (subst P (ap (image hit) h.1) back))

  module _ (x h e m : ℕ) (plain : IsPlainDrawn graph x h) (later : h < e) (most : e ≤ length graph.atoms)
      (at_h : IsPlainAt mol m (image hit h)) (at_e : IsPlainAt mol m (image hit e)) (under : image hit e < image hit h) where
    host_lies : image hit x ≡ m
    host_lies = image_beside plain.bond plain.drawn x h m plain.ends at_h

    -- each neighbour of what lies on the same atom's hydrogen is x
    neighbour_is : (z : ℕ) (bond : GraphBond) → Contains graph.bonds bond → HasEnds (graph_edge bond) z e → z ≡ x
    neighbour_is z bond has ends =
        let between : IsBetween (length graph.atoms) (graph_edge bond) =
        subst (λ (b : GraphBond). IsBetween (length graph.atoms) (graph_edge b)) has.2 (drawn_between graph drawing has.0 bond has.1) in
        let range = ends_drawn graph z e (graph_edge bond) between ends in
        let own = are_drawn graph x h drawing plain in
        one_image graph mol hit is z x (range.host_least, range.host_most) (own.host_least, own.host_most) (image_beside bond has z e m ends at_e ∙ sym host_lies)

    -- it is no plain hydrogen, since those rise
    is_other : (host : ℕ) → IsPlainDrawn graph host e → ⊥
    is_other host drawn =
        let same : host ≡ x = neighbour_is host drawn.bond drawn.drawn drawn.ends in
        let rises = is.rise x h e plain (subst (λ (n : ℕ). IsPlainDrawn graph n e) same drawn) later in
        omega (arith, rises, under)

    leads_there : LeadsTo graph x e
    leads_there i d below bond there =
        let default : get_or (numbers_at (graph_edges graph.bonds) e) i d ≡ get_or (numbers_at (graph_edges graph.bonds) e) i 0 = get_or_default (numbers_at (graph_edges graph.bonds) e) i d 0 below in
        let at : slice_get graph.bonds (get_or (numbers_at (graph_edges graph.bonds) e) i 0 - 1) ≡ Some bond = subst (λ (n : ℕ). slice_get graph.bonds (n - 1) ≡ Some bond) default there in
        let touched : touches e (graph_edge bond) ≡ true = ends_at graph e i below bond at in
        let ends = ends_by (graph_edge bond) e (eqb bond.first e) refl touched in
        let k = get_or (numbers_at (graph_edges graph.bonds) e) i 0 - 1 in
        let has : Contains graph.bonds bond = (k, place_within graph.bonds k bond at, place_is graph.bonds k bond bond at) in
        subst (HasEnds (graph_edge bond) e) (neighbour_is _ bond has (flipped (graph_edge bond) e _ ends)) ends

    -- so it is an atom that may take one
    taker_is : IsTaker graph x e
    taker_is =
        let least : 1 ≤ e = omega arith in
        let fits = is.atoms e least most in
        record {
          least = least;
          most = most;
          other = is_other;
          asked = fits.asked;
          asked_at = fits.asked_at;
          takes = subst (λ (z : ℕ). accepts fits.asked.test.kind z ≡ true) (element_is mol m (image hit e) at_e fits.atom fits.atom_at) fits.kind;
          leads = leads_there;
        }

-- the first atoms of a hit leave no hydrogen free, but for later takers
pub begins_free : (graph : GraphView) (mol : Molecule) → IsGraph graph → (first others : List ℕ) → IsHit graph mol (first ++ others) → LeavesNoneFree graph mol first
begins_free graph mol drawing first others is x h m y plain early at_h at_y under =
    let least = (are_drawn graph x h drawing plain).least in
    let same : image (first ++ others) h ≡ image first h = get_or-append first others 0 (h - 1) (omega arith) in
    let there : IsPlainAt mol m (image (first ++ others) h) = subst (IsPlainAt mol m) (sym same) at_h in
    let host : image (first ++ others) x ≡ m = image_beside graph mol drawing (first ++ others) is plain.bond plain.drawn x h m plain.ends there in
    let lower : y < image (first ++ others) h = subst (λ (n : ℕ). y < n) (sym same) under in
    let held : Contains (first ++ others) y =
    is.first_free x h y plain (subst (λ (n : ℕ). IsPlainAt mol n (image (first ++ others) h)) (sym host) there) (subst (λ (n : ℕ). IsPlainAt mol n y) (sym host) at_y) lower in
    let k = held.0 in
    let within : k < length (first ++ others) = held.1 in
    elim (cases_lt k (length first)) [
      | inl here ↦ inl (k, here, sym (get_or-append first others y k here) ∙ held.2)
      | inr behind ↦
          let place : k + 1 - 1 ≡ k = omega arith in
          let lies : image (first ++ others) (k + 1) ≡ y = ap (λ (n : ℕ). get_or (first ++ others) n 0) place ∙ get_or_default (first ++ others) k 0 y within ∙ held.2 in
          let most : k + 1 ≤ length graph.atoms = omega (arith, is.one_each) in
          let later : h < k + 1 = omega arith in
          inr (record {
            e = k + 1;
            behind = omega arith;
            taker = taker_is graph mol drawing (first ++ others) is x h (k + 1) m plain later most there
                (subst (IsPlainAt mol m) (sym lies) at_y) (subst (λ (n : ℕ). n < image (first ++ others) h) (sym lies) lower);
          })
    ]

-- ---- the list of the plain hydrogens

-- the plain hydrogens of the first x atoms
pub record AreListed (graph : GraphView) (x : ℕ) (list : List PlainHydrogen) : Type 0 where
  pub each : All (IsEntry graph) list
  pub early : All (λ one. one.atom ≤ x) list
  pub all : (host h : ℕ) → IsPlainDrawn graph host h → h ≤ x → IsListed list h

module _ (graph : GraphView) (drawing : IsGraph graph) where
  -- before the first atom
  pub listed_none : AreListed graph 0 []
  listed_none = record {
    each = λ k d below. absurd (omega arith);
    early = λ k d below. absurd (omega arith);
    all = λ host h plain early. absurd (let least = (are_drawn graph host h drawing plain).least in omega arith);
  }

  module _ (x : ℕ) (list : List PlainHydrogen) (so_far : AreListed graph x list) where
    -- the next atom is none
    pub listed_other : ((host : ℕ) → IsPlainDrawn graph host (x + 1) → ⊥) → AreListed graph (x + 1) list
    listed_other other = record {
      each = so_far.each;
      early = λ k d below. (let early = so_far.early k d below in omega arith);
      all = λ host h plain early.
          elim (cases_eq h (x + 1)) [
            | inl same ↦ absurd (other host (subst (IsPlainDrawn graph host) same plain))
            | inr before ↦ so_far.all host h plain (omega arith)
          ];
    }

    module _ (one : PlainHydrogen) (is : one.atom ≡ x + 1) (plain : IsPlainDrawn graph one.host one.atom)
        (listed : 1 ≤ one.before → IsListedOn list one.host one.before) (last : All (λ o. o.host ≡ one.host → o.atom ≤ one.before) list)
        (due : IsDue graph one.host one.atom one.due) where
      -- what one of the list is
      entry_of : (o : PlainHydrogen) → Contains list o → IsEntry graph o × (o.atom ≤ x)
      entry_of o has = (
        subst (IsEntry graph) has.2 (so_far.each has.0 o has.1),
        subst (λ (p : PlainHydrogen). p.atom ≤ x) has.2 (so_far.early has.0 o has.1),
      )

      before_is : IsBefore graph one.host one.atom one.before
      before_is = record {
        under = elim (cases_lt 0 one.before) [
          | inl some ↦ (let l = listed some in omega (arith, (entry_of l.one l.has).1, l.is, is))
          | inr none ↦ omega (arith, is)
        ];
        plain = λ some.
            (let l = listed some in
            subst (IsPlainDrawn graph one.host) l.is (subst (λ (n : ℕ). IsPlainDrawn graph n l.one.atom) l.on (entry_of l.one l.has).0.plain));
        last = λ h other under.
            (let l = so_far.all one.host h other (omega (arith, is)) in
            let there = (entry_of l.one l.has).0.plain in
            let host : l.one.host ≡ one.host = one_host graph l.one.host one.host h (subst (IsPlainDrawn graph l.one.host) l.is there) other in
            let most : l.one.atom ≤ one.before = subst (λ (p : PlainHydrogen). p.host ≡ one.host → p.atom ≤ one.before) l.has.2 (last l.has.0 l.one l.has.1) host in
            omega (arith, l.is));
      }

      -- the next atom is one
      pub listed_more : AreListed graph (x + 1) (list ++ one ∷ [])
      listed_more = record {
        each = All-push (IsEntry graph) list one so_far.each (record { plain = plain; least = omega (arith, is); before = before_is; due = due });
        early = All-push (λ o. o.atom ≤ x + 1) list one (λ k d below. (let early = so_far.early k d below in omega arith)) (omega (arith, is));
        all = λ host h other early.
            elim (cases_eq h (x + 1)) [
              | inl same ↦ record { one = one; has = (length list, omega (arith, length-append list (one ∷ [])), get_or-append_seam list one [] one); is = is ∙ sym same }
              | inr before ↦
                  let l = so_far.all host h other (omega arith) in
                  record {
                    one = l.one;
                    has = (l.has.0, (let below : l.has.0 < length list = l.has.1 in omega (arith, length-append list (one ∷ []))), get_or-append list (one ∷ []) l.one l.has.0 l.has.1 ∙ l.has.2);
                    is = l.is;
                  }
            ];
      }

  -- behind the last atom
  pub listed_all : (list : List PlainHydrogen) → AreListed graph (length graph.atoms) list → ArePlain graph list
  listed_all list so_far = record { each = so_far.each; all = λ host h plain. so_far.all host h plain (are_drawn graph host h drawing plain).most }

-- ---- the last atom that may take a hydrogen

-- the last of the takers up to atom x, or the hydrogen itself
pub record IsDueTo (graph : GraphView) (host atom x due : ℕ) : Type 0 where
  pub from : atom ≤ due
  pub up : atom ≤ x
  pub taker : atom < due → IsTaker graph host due
  pub last : (e : ℕ) → IsTaker graph host e → e ≤ x → e ≤ due

pub due_starts : (graph : GraphView) (host atom : ℕ) → IsDueTo graph host atom atom atom
due_starts graph host atom = record { from = omega arith; up = omega arith; taker = λ over. absurd (omega arith); last = λ e taker early. early }

pub due_same : (graph : GraphView) (host atom x due : ℕ) → IsDueTo graph host atom x due → (IsTaker graph host (x + 1) → ⊥) → IsDueTo graph host atom (x + 1) due
due_same graph host atom x due so_far none = record {
  from = so_far.from;
  up = omega (arith, so_far.up);
  taker = so_far.taker;
  last = λ e taker early.
      elim (cases_eq e (x + 1)) [
        | inl same ↦ absurd (none (subst (IsTaker graph host) same taker))
        | inr before ↦ so_far.last e taker (omega arith)
      ];
}

pub due_next : (graph : GraphView) (host atom x due : ℕ) → IsDueTo graph host atom x due → IsTaker graph host (x + 1) → IsDueTo graph host atom (x + 1) (x + 1)
due_next graph host atom x due so_far taker = record { from = omega (arith, so_far.up); up = omega (arith, so_far.up); taker = λ over. taker; last = λ e other early. early }

pub due_ends : (graph : GraphView) (host atom due : ℕ) → IsDueTo graph host atom (length graph.atoms) due → IsDue graph host atom due
due_ends graph host atom due so_far = record { from = so_far.from; taker = so_far.taker; last = λ e taker. so_far.last e taker taker.most }

-- the least number of a plain hydrogen, by the ends of the bonds alone
pub plain_least : (graph : GraphView) (x h : ℕ) → All (λ bond. bond.first < bond.second) graph.bonds → All (λ bond. 1 ≤ bond.first) graph.bonds → IsPlainDrawn graph x h → 1 ≤ h
plain_least graph x h lower least is =
    let k = is.drawn.0 in
    let less : is.bond.first < is.bond.second = subst (λ (b : GraphBond). b.first < b.second) is.drawn.2 (lower k is.bond is.drawn.1) in
    let from : 1 ≤ is.bond.first = subst (λ (b : GraphBond). 1 ≤ b.first) is.drawn.2 (least k is.bond is.drawn.1) in
    by_ends is.ends less from
  where
    by_ends : HasEnds (graph_edge is.bond) x h → is.bond.first < is.bond.second → 1 ≤ is.bond.first → 1 ≤ h
    by_ends (inl e) less from = omega (arith, e.1)
    by_ends (inr e) less from = omega (arith, e.0)

-- and the greatest
pub plain_most : (graph : GraphView) (x h : ℕ) → IsPlainDrawn graph x h → h ≤ length graph.atoms
plain_most graph x h is = (let below = place_within graph.atoms (h - 1) is.asked is.asked_at in omega arith)
