-- The plain program gives the rising list of all hits: its tests are those of a hit.
--     law        HitsAreListed
use Rattle.std.proofs.Common.{◌≡◌, ℕ, zero, suc, ◌+◌, ◌-◌, ◌<◌, ◌≤◌, inl, inr, Bool, true, false, ◌&&◌, ◌||◌, not, eqb, List, [], ◌∷◌, Option, Some, None, length, get_or, map, refl, ap, subst, ◌∙◌, arith, Contains}
use Rattle.std.specs.Prelude.{nat_lt, slice_get}
use Rattle.std.specs.List.{list_any}
use Rattle.std.proofs.lemmas.Bool.Decides.{nat_tests}
use Rattle.std.proofs.lemmas.List.{get_or-map, length-map}
use Rattle.mk_text.specs.Choices.{IsPassed}
use Rattle.mk_text.proofs.ForCallers.{choices_that_pass as choices_rise}
use Rattle.mk_text.proofs.ForCallers.{both, and_true, not_true, or_left, or_right}
use Rattle.mk_model.specs.declared.edge.Edge.{Edge}
use Rattle.mk_model.specs.declared.graph.GraphAtom.{GraphAtom}
use Rattle.mk_model.specs.declared.graph.GraphBond.{GraphBond}
use Rattle.mk_model.specs.declared.molecule.Atom.{Atom}
use Rattle.mk_model.specs.declared.molecule.MolBond.{MolBond}
use Rattle.mk_model.specs.Edges.{HasEnds, degree}
use Rattle.mk_model.specs.Molecules.{Molecule, edge_of, edges}
use Rattle.mk_model.specs.Graphs.{GraphView, graph_edge, graph_edges}
use Rattle.mk_model.specs.Tests.{meets}
use Rattle.mk_model.specs.Fitting.{FitsAtom, LiesOn, is_drawn_hydrogen, is_hydrogen, passes_at, passes_some}
use Rattle.mk_model.specs.Hits.{image, IsHit, IsPlainAt, IsPlainDrawn}
use Rattle.mk_tests.proofs.ForCallers.{alone, around, fits_by, meets_around}
use Rattle.mk_walk.specs.Plain.{HitsAreListed, are_distinct, atoms_fit, bonds_fit, each_bonded, fits_atom, has_ends, hits_of, images_rise, is_hit, is_plain_at, is_plain_drawn, is_plain_bond, is_plain_test, lies_on, meets_some, rises_at, takes_first, takes_lower_at}
use Rattle.mk_walk.proofs.ForCallers.{all_found, all_given, all_places, all_recursion, any_found, any_given, distinct_found, distinct_given, plain_test_found, plain_test_given}

-- ---- atoms

module _ (graph : GraphView) (mol : Molecule) where
  -- what passes the test fits
  fits_found_by : (x m : ℕ) (asked : Option GraphAtom) (atom : Option Atom) → slice_get graph.atoms (x - 1) ≡ asked
      → slice_get mol.atoms (m - 1) ≡ atom → meets_some graph mol x m asked atom ≡ true → FitsAtom graph mol x m
  fits_found_by x m None atom asked_at atom_at met = absurd cc
  fits_found_by x m (Some asked) None asked_at atom_at met = absurd cc
  fits_found_by x m (Some asked) (Some atom) asked_at atom_at met =
      let h = both (alone asked atom) (around graph mol x m asked) met in
      fits_by graph mol x m asked atom asked_at atom_at h.0 h.1

  fits_found : (x m : ℕ) → fits_atom graph mol x m ≡ true → FitsAtom graph mol x m
  fits_found x m met = fits_found_by x m _ _ refl refl met

  -- and what fits passes
  fits_given : (x m : ℕ) → FitsAtom graph mol x m → fits_atom graph mol x m ≡ true
  fits_given x m fits =
      rw (fits.asked_at, fits.atom_at)
      (and_true (alone fits.asked fits.atom) (around graph mol x m fits.asked)
      (and_true _ _ fits.kind (and_true _ _ fits.charge fits.radical)) (meets_around graph mol x m fits.asked fits.asked_at fits))

  -- the same for each atom of a hit
  atoms_found : (x : ℕ) (hit : List ℕ) → atoms_fit graph mol x hit ≡ true → (k : ℕ) → k < length hit → FitsAtom graph mol (x + k) (get_or hit k 0)
  atoms_found x [] met k within = absurd (omega arith)
  atoms_found x (a ∷ others) met zero within =
      let h = both (fits_atom graph mol x a) (atoms_fit graph mol (x + 1) others) met in
      let same : x + 0 ≡ x = omega arith in
      rw same (fits_found x a h.0)
  atoms_found x (a ∷ others) met (suc k) within =
      let h = both (fits_atom graph mol x a) (atoms_fit graph mol (x + 1) others) met in
      let same : x + suc k ≡ x + 1 + k = omega arith in
      rw same (atoms_found (x + 1) others h.1 k (omega arith))

  atoms_given : (x : ℕ) (hit : List ℕ) → ((k : ℕ) → k < length hit → FitsAtom graph mol (x + k) (get_or hit k 0)) → atoms_fit graph mol x hit ≡ true
  atoms_given x [] each = refl
  atoms_given x (a ∷ others) each =
      let same : x + 0 ≡ x = omega arith in
      let here : FitsAtom graph mol x a = subst (λ (n : ℕ). FitsAtom graph mol n a) same (each 0 (omega arith)) in
      and_true _ _ (fits_given x a here)
      (atoms_given (x + 1) others (λ k within.
      let next : x + suc k ≡ x + 1 + k = omega arith in
      subst (λ (n : ℕ). FitsAtom graph mol n (get_or others k 0)) next (each (suc k) (omega arith))))

-- ---- bonds

-- numbers that pass the test are equal, and the other way round
eqb_is : (a b : ℕ) → eqb a b ≡ true → a ≡ b
eqb_is a b same = grind (arith, nat_tests)

eqb_same : (a b : ℕ) → a ≡ b → eqb a b ≡ true
eqb_same a b same = grind (arith, nat_tests)

-- the two orders of the ends
ends_by : (edge : Edge) (a b : ℕ) (straight : Bool) → (eqb edge.first a && eqb edge.second b) ≡ straight → (straight || (eqb edge.first b && eqb edge.second a)) ≡ true → HasEnds edge a b
ends_by edge a b true e h = (let g = both (eqb edge.first a) (eqb edge.second b) e in inl (eqb_is _ _ g.0, eqb_is _ _ g.1))
ends_by edge a b false e h = (let g = both (eqb edge.first b) (eqb edge.second a) h in inr (eqb_is _ _ g.0, eqb_is _ _ g.1))

ends_given : (edge : Edge) (a b : ℕ) → HasEnds edge a b → has_ends edge a b ≡ true
ends_given edge a b (inl h) = or_left _ _ (and_true _ _ (eqb_same _ _ h.0) (eqb_same _ _ h.1))
ends_given edge a b (inr h) = or_right _ _ (and_true _ _ (eqb_same _ _ h.0) (eqb_same _ _ h.1))

-- the test for a bond finds it
lies_found : (mol : Molecule) (asked : GraphBond) (a b : ℕ) → lies_on mol asked a b ≡ true → LiesOn mol asked a b
lies_found mol asked a b lies =
    let f = any_found (λ (bond : MolBond). has_ends (edge_of bond) a b && meets asked bond) mol.bonds lies in
    let h = both (has_ends (edge_of f.x) a b) (meets asked f.x) f.passes in
    record { bond = f.x; joins = (f.at, ends_by (edge_of f.x) a b _ refl h.0); meets = h.1 }

-- a bond is found by the test
lies_given : (mol : Molecule) (asked : GraphBond) (a b : ℕ) → LiesOn mol asked a b → lies_on mol asked a b ≡ true
lies_given mol asked a b lies =
    any_given (λ (bond : MolBond). has_ends (edge_of bond) a b && meets asked bond) mol.bonds lies.bond lies.joins.0.0 lies.joins.0.1 lies.joins.0.2
    (and_true _ _ (ends_given (edge_of lies.bond) a b lies.joins.1) lies.meets)

-- ---- plain hydrogens

-- an item that passes at its number
passed_at : {X : Type 0} (test : X → Bool) (o : Option X) → passes_some test o ≡ true → (x : X) × (o ≡ Some x) × (test x ≡ true)
passed_at test None passes = absurd cc
passed_at test (Some x) passes = (x, refl, passes)

-- the test for a plain hydrogen of a graph finds it
plain_found : (graph : GraphView) (x h : ℕ) → is_plain_drawn graph x h ≡ true → IsPlainDrawn graph x h
plain_found graph x h passes =
    let one = both (passes_at (λ (atom : GraphAtom). is_plain_test atom.test) graph.atoms h) _ passes in
    let two = both (list_any (λ (bond : GraphBond). has_ends (graph_edge bond) x h && is_plain_bond bond) graph.bonds) _ one.1 in
    let three = both (eqb (degree (graph_edges graph.bonds) h) 1) (not (is_drawn_hydrogen graph.atoms x)) two.1 in
    let atom = passed_at (λ (atom : GraphAtom). is_plain_test atom.test) (slice_get graph.atoms (h - 1)) one.0 in
    let f = any_found (λ (bond : GraphBond). has_ends (graph_edge bond) x h && is_plain_bond bond) graph.bonds two.0 in
    let ends = both (has_ends (graph_edge f.x) x h) _ f.passes in
    let kinds = both (eqb f.x.kind 1) (eqb f.x.topology 0) ends.1 in
    record {
      asked = atom.0;
      asked_at = atom.1;
      test = plain_test_found atom.0.test atom.2;
      bond = f.x;
      drawn = f.at;
      ends = ends_by (graph_edge f.x) x h _ refl ends.0;
      single = (eqb_is _ _ kinds.0, eqb_is _ _ kinds.1);
      alone = eqb_is _ _ three.0;
      other = not_true _ three.1;
    }

-- and a plain hydrogen passes
plain_given : (graph : GraphView) (x h : ℕ) → IsPlainDrawn graph x h → is_plain_drawn graph x h ≡ true
plain_given graph x h is =
    let test : passes_at (λ (atom : GraphAtom). is_plain_test atom.test) graph.atoms h ≡ true = rw is.asked_at (plain_test_given is.asked.test is.test) in
    let bond : list_any (λ (bond : GraphBond). has_ends (graph_edge bond) x h && is_plain_bond bond) graph.bonds ≡ true =
    any_given (λ (bond : GraphBond). has_ends (graph_edge bond) x h && is_plain_bond bond) graph.bonds is.bond is.drawn.0 is.drawn.1 is.drawn.2
    (and_true _ _ (ends_given (graph_edge is.bond) x h is.ends) (and_true _ _ (eqb_same _ _ is.single.0) (eqb_same _ _ is.single.1))) in
    let other : not (is_drawn_hydrogen graph.atoms x) ≡ true = rw is.other refl in
    and_true _ _ test (and_true _ _ bond (and_true _ _ (eqb_same _ _ is.alone) other))

-- the same for one of a molecule
plain_at_found : (mol : Molecule) (m y : ℕ) → is_plain_at mol m y ≡ true → IsPlainAt mol m y
plain_at_found mol m y passes =
    let one = both (is_hydrogen mol.atoms y) _ passes in
    let two = both (list_any (λ (bond : MolBond). has_ends (edge_of bond) m y && eqb bond.kind 1) mol.bonds) (eqb (degree (edges mol.bonds) y) 1) one.1 in
    let f = any_found (λ (bond : MolBond). has_ends (edge_of bond) m y && eqb bond.kind 1) mol.bonds two.0 in
    let ends = both (has_ends (edge_of f.x) m y) (eqb f.x.kind 1) f.passes in
    record {
      hydrogen = one.0;
      bond = f.x;
      joins = (f.at, ends_by (edge_of f.x) m y _ refl ends.0);
      single = eqb_is _ _ ends.1;
      alone = eqb_is _ _ two.1;
    }

plain_at_given : (mol : Molecule) (m y : ℕ) → IsPlainAt mol m y → is_plain_at mol m y ≡ true
plain_at_given mol m y is =
    let bond : list_any (λ (bond : MolBond). has_ends (edge_of bond) m y && eqb bond.kind 1) mol.bonds ≡ true =
    any_given (λ (bond : MolBond). has_ends (edge_of bond) m y && eqb bond.kind 1) mol.bonds is.bond is.joins.0.0 is.joins.0.1 is.joins.0.2
    (and_true _ _ (ends_given (edge_of is.bond) m y is.joins.1) (eqb_same _ _ is.single)) in
    and_true _ _ is.hydrogen (and_true _ _ bond (eqb_same _ _ is.alone))

-- ---- one test under another

-- where the first passes, the second does
implied : (a b : Bool) → (not a || b) ≡ true → a ≡ true → b ≡ true
implied true b either holds = either
implied false b either holds = absurd cc

implies : (a b : Bool) → (a ≡ true → b ≡ true) → (not a || b) ≡ true
implies true b follows = follows refl
implies false b follows = refl

-- a number that is lower passes, and the other way round
lower_is : (a b : ℕ) → nat_lt a b ≡ true → a < b
lower_is a b lower = grind (arith, nat_tests)

lower_same : (a b : ℕ) → a < b → nat_lt a b ≡ true
lower_same a b lower = grind (arith, nat_tests)

-- where every atom that has a bond passes, the ends of each bond do
bonded_found : (bonds : List Edge) (test : ℕ → Bool) → each_bonded bonds test ≡ true → (edge : Edge) → Contains bonds edge → (a b : ℕ) → HasEnds edge a b → (test a ≡ true) × (test b ≡ true)
bonded_found bonds test all edge has a b ends =
    let each = all_found (λ (e : Edge). test e.first && test e.second) bonds all in
    let here : (test edge.first && test edge.second) ≡ true = subst (λ (e : Edge). (test e.first && test e.second) ≡ true) has.2 (each has.0 edge has.1) in
    by_ends ends (both (test edge.first) (test edge.second) here)
  where
    by_ends : HasEnds edge a b → (test edge.first ≡ true) × (test edge.second ≡ true) → (test a ≡ true) × (test b ≡ true)
    by_ends (inl e) h = (subst (λ (n : ℕ). test n ≡ true) e.0 h.0, subst (λ (n : ℕ). test n ≡ true) e.1 h.1)
    by_ends (inr e) h = (subst (λ (n : ℕ). test n ≡ true) e.1 h.1, subst (λ (n : ℕ). test n ≡ true) e.0 h.0)

-- where all atoms pass, those that have a bond do
bonded_given : (bonds : List Edge) (test : ℕ → Bool) → ((n : ℕ) → test n ≡ true) → each_bonded bonds test ≡ true
bonded_given bonds test each = all_given (λ (e : Edge). test e.first && test e.second) bonds (λ k d within. and_true _ _ (each _) (each _))

-- a bond's edge is one of the edges
edge_has : {B : Type 0} (edge : B → Edge) (bonds : List B) (bond : B) → Contains bonds bond → Contains (map edge bonds) (edge bond)
edge_has edge bonds bond has =
    let below : has.0 < length bonds = has.1 in
    (has.0, omega (arith, length-map bonds edge), get_or-map edge bonds has.0 bond (edge bond) below ∙ ap edge has.2)

-- ---- plain hydrogens in order

module _ (graph : GraphView) (mol : Molecule) (hit : List ℕ) where
  -- the tests for plain hydrogens of the graph find that their images rise
  rise_found : images_rise graph hit ≡ true → (x h later : ℕ) → IsPlainDrawn graph x h → IsPlainDrawn graph x later → h < later → image hit h < image hit later
  rise_found passes x h later plain other order =
      let bonds = graph_edges graph.bonds in
      let has : Contains bonds (graph_edge plain.bond) = edge_has graph_edge graph.bonds plain.bond plain.drawn in
      let has_other : Contains bonds (graph_edge other.bond) = edge_has graph_edge graph.bonds other.bond other.drawn in
      let on_x = (bonded_found bonds (λ x. each_bonded bonds (λ h. each_bonded bonds (λ later. rises_at graph hit x h later))) passes (graph_edge plain.bond) has x h plain.ends).0 in
      let on_h = (bonded_found bonds (λ h. each_bonded bonds (λ later. rises_at graph hit x h later)) on_x (graph_edge plain.bond) has x h plain.ends).1 in
      let on_later = (bonded_found bonds (λ later. rises_at graph hit x h later) on_h (graph_edge other.bond) has_other x later other.ends).1 in
      lower_is _ _ (implied _ _ on_later (and_true _ _ (plain_given graph x h plain) (and_true _ _ (plain_given graph x later other) (lower_same h later order))))

  -- and those for plain hydrogens of the molecule that the lower ones are taken
  first_found : takes_first graph mol hit ≡ true → (x h y : ℕ) → IsPlainDrawn graph x h → IsPlainAt mol (image hit x) (image hit h) → IsPlainAt mol (image hit x) y → y < image hit h → Contains hit y
  first_found passes x h y plain at_h at_y under =
      let bonds = graph_edges graph.bonds in
      let there = edges mol.bonds in
      let has : Contains bonds (graph_edge plain.bond) = edge_has graph_edge graph.bonds plain.bond plain.drawn in
      let has_y : Contains there (edge_of at_y.bond) = edge_has edge_of mol.bonds at_y.bond at_y.joins.0 in
      let on_x = (bonded_found bonds (λ x. each_bonded bonds (λ h. each_bonded there (λ y. takes_lower_at graph mol hit x h y))) passes (graph_edge plain.bond) has x h plain.ends).0 in
      let on_h = (bonded_found bonds (λ h. each_bonded there (λ y. takes_lower_at graph mol hit x h y)) on_x (graph_edge plain.bond) has x h plain.ends).1 in
      let on_y = (bonded_found there (λ y. takes_lower_at graph mol hit x h y) on_h (edge_of at_y.bond) has_y (image hit x) y at_y.joins.1).1 in
      let any = implied _ _ on_y
      (and_true _ _ (plain_given graph x h plain)
      (and_true _ _ (plain_at_given mol (image hit x) (image hit h) at_h) (and_true _ _ (plain_at_given mol (image hit x) y at_y) (lower_same y (image hit h) under)))) in
      let f = any_found (λ (a : ℕ). eqb a y) hit any in
      subst (Contains hit) (eqb_is f.x y f.passes) f.at

  -- a hit passes them
  rise_given : IsHit graph mol hit → images_rise graph hit ≡ true
  rise_given is =
      let bonds = graph_edges graph.bonds in
      bonded_given bonds _
      (λ x. bonded_given bonds _
      (λ h. bonded_given bonds _
      (λ later. implies _ _
      (λ passes.
      let one = both (is_plain_drawn graph x h) _ passes in
      let two = both (is_plain_drawn graph x later) (nat_lt h later) one.1 in
      lower_same _ _ (is.rise x h later (plain_found graph x h one.0) (plain_found graph x later two.0) (lower_is h later two.1))))))

  first_given : IsHit graph mol hit → takes_first graph mol hit ≡ true
  first_given is =
      let bonds = graph_edges graph.bonds in
      bonded_given bonds _
      (λ x. bonded_given bonds _
      (λ h. bonded_given (edges mol.bonds) _
      (λ y. implies _ _
      (λ passes.
      let one = both (is_plain_drawn graph x h) _ passes in
      let two = both (is_plain_at mol (image hit x) (image hit h)) _ one.1 in
      let three = both (is_plain_at mol (image hit x) y) (nat_lt y (image hit h)) two.1 in
      let held =
      is.first_free x h y (plain_found graph x h one.0) (plain_at_found mol (image hit x) (image hit h) two.0)
      (plain_at_found mol (image hit x) y three.0) (lower_is y (image hit h) three.1) in
      any_given (λ (a : ℕ). eqb a y) hit y held.0 held.1 held.2 (eqb_same y y refl)))))

-- ---- the hit

-- what passes the tests is a hit
hit_found : (graph : GraphView) (mol : Molecule) (hit : List ℕ) → IsPassed (length mol.atoms) (length graph.atoms) (is_hit graph mol) hit → IsHit graph mol hit
unfolding is_hit
hit_found graph mol hit passed =
    let f = both (are_distinct hit && (atoms_fit graph mol 1 hit && bonds_fit graph mol hit)) (images_rise graph hit && takes_first graph mol hit) passed.passes in
    let h = both (are_distinct hit) (atoms_fit graph mol 1 hit && bonds_fit graph mol hit) f.0 in
    let g = both (atoms_fit graph mol 1 hit) (bonds_fit graph mol hit) h.1 in
    let plain = both (images_rise graph hit) (takes_first graph mol hit) f.1 in
    let lies = all_found (λ (asked : GraphBond). lies_on mol asked (image hit asked.first) (image hit asked.second)) graph.bonds g.1 in
    record {
      one_each = passed.choice.count;
      within = all_places (λ (a : ℕ). (1 ≤ a) × (a ≤ length mol.atoms)) hit passed.choice.within;
      distinct = distinct_found hit h.0;
      atoms = λ x least most.
          (let place : 1 + (x - 1) ≡ x = omega arith in
          subst (λ (n : ℕ). FitsAtom graph mol n (image hit x)) place (atoms_found graph mol 1 hit g.0 (x - 1) (omega (arith, passed.choice.count))));
      bonds = λ k d within. lies_found mol _ _ _ (lies k d within);
      rise = rise_found graph mol hit plain.0;
      first_free = first_found graph mol hit plain.1;
    }

-- a hit passes the tests
hit_given : (graph : GraphView) (mol : Molecule) (hit : List ℕ) → IsHit graph mol hit → IsPassed (length mol.atoms) (length graph.atoms) (is_hit graph mol) hit
unfolding is_hit
hit_given graph mol hit h =
    let one_by_one : (k : ℕ) → k < length hit → FitsAtom graph mol (1 + k) (get_or hit k 0) =
    λ k within.
    (let place : 1 + k - 1 ≡ k = omega arith in
    subst (λ (i : ℕ). FitsAtom graph mol (1 + k) (get_or hit i 0)) place (h.atoms (1 + k) (omega arith) (omega (arith, h.one_each)))) in
    record {
      choice = record { count = h.one_each; within = all_recursion (λ (a : ℕ). (1 ≤ a) × (a ≤ length mol.atoms)) hit h.within };
      passes =
          and_true _ _
          (and_true _ _ (distinct_given hit h.distinct)
          (and_true _ _ (atoms_given graph mol 1 hit one_by_one)
          (all_given (λ (asked : GraphBond). lies_on mol asked (image hit asked.first) (image hit asked.second)) graph.bonds (λ k d within. lies_given mol _ _ _ (h.bonds k d within)))))
          (and_true _ _ (rise_given graph mol hit h) (first_given graph mol hit h));
    }

-- the plain program gives the rising list of all hits
pub law : HitsAreListed
unfolding hits_of
law graph mol =
    let all = choices_rise (length mol.atoms) (length graph.atoms) (is_hit graph mol) in
    record {
      rises = all.rises;
      each = λ hit is. hit_found graph mol hit (all.each hit is);
      all = λ hit is. all.all hit (hit_given graph mol hit is);
    }
