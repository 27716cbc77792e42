-- An embedding of the whole, at the atoms that it shares with a part, is one of the part.
--     hydrogens_weaker .. meets_weaker     what is asked of a molecule, weakened
--     hit_shared                           the theorem
use Rattle.std.proofs.Common.{◌≡◌, ◌≢◌, ◌∙◌, ℕ, ℤ, pos, negsuc, zero, suc, ◌+◌, ◌-◌, ◌<◌, ◌≤◌, inl, inr, Bool, true, false, cond, ◌&&◌, ◌||◌, not, eqb, leb, List, Some, length, get_or, map, refl, sym, ap, subst, arith, AllPairs, Contains}
use Rattle.std.specs.Prelude.{count_by, slice_get}
use Rattle.std.proofs.lemmas.Bool.{cases_eq}
use Rattle.std.proofs.lemmas.Bool.Decides.{nat_tests}
use Rattle.std.proofs.lemmas.List.{get_or-map, length-map}
use Rattle.std.proofs.lemmas.List.Elements.{Contains-get_or}
use Rattle.std.proofs.lemmas.List.Sorted.{sum_by-IsPermutation}
use Rattle.mk_model.specs.declared.atom_test.AtomTest.{AtomTest}
use Rattle.mk_model.specs.declared.atom_test.Kind.TheVariants.{Anything}
use Rattle.mk_model.specs.declared.graph.GraphAtom.{GraphAtom}
use Rattle.mk_model.specs.declared.graph.GraphBond.{GraphBond}
use Rattle.mk_model.specs.declared.molecule.MolBond.{MolBond}
use Rattle.mk_model.specs.declared.template.QueryBond.{QueryBond}
use Rattle.mk_model.specs.Edges.{other_end, touches}
use Rattle.mk_model.specs.Expansions.{unmarked}
use Rattle.mk_model.specs.Fitting.{FitsAtom, LiesOn, drawn_hydrogens, drawn_others, drawn_rings, hydrogens_at, is_drawn_hydrogen, is_hydrogen_kind, is_unsaturated_at, others_at, passes_some, rings_at}
use Rattle.mk_model.specs.Graphs.{GraphView, IsBefore, IsGraph, graph_edge}
use Rattle.mk_model.specs.Hits.{IsEmbedding, image}
use Rattle.mk_model.specs.Molecules.{Molecule}
use Rattle.mk_model.specs.Pieces.{Fragment}
use Rattle.mk_model.specs.Tests.{accepts, asked_kind, charge_fits, hydrogens_fit, is_double, is_single, meets, radical_fits, ring_bonds_fit, substitution_fits, takes_kind, takes_topology, unsaturation_fits}
use Rattle.mk_text.proofs.ForCallers.{both as both_parts, or_left, or_right}
use Rattle.mk_model.proofs.ForCallers.{at_place}
use Rattle.mk_pieces.proofs.JoiningLemmas.{in_mapped}
use Rattle.mk_expand.specs.OpenGraphs.{shared_atom, shared_bond, shared_kind, shared_rings}
use Rattle.mk_expand.proofs.CountLemmas.{count_mapped, count_same, one_if}
use Rattle.mk_open_codes.proofs.HungLemmas.{IsHung}
use Rattle.mk_open_codes.proofs.MarkLemmas.{Draws, DrawsShared, IsBondShared, atoms_count, bond_shared, differ, ends_of, marks_same, of_mapped, rings_same}
use Rattle.mk_open_codes.proofs.PairLemmas.{Ends, counted_within, with_ends}
use Rattle.mk_open_codes.proofs.SharedLemmas.{IsShared}
use Rattle.mk_open_codes.proofs.SpokeLemmas.{meets_at, spoke}

-- ---- weaker tests

-- more drawn, and no more drawn or free
hydrogens_weaker : (column h f h' f' count : ℕ) → h ≤ h' → h' + f' ≤ h + f → hydrogens_fit column h' f' count ≡ true → hydrogens_fit column h f count ≡ true
hydrogens_weaker column h f h' f' count more no_more = by (eqb column 0) (eqb column 1)
  where
    between : (leb h' count && leb count (h' + f')) ≡ true → (leb h count && leb count (h + f)) ≡ true
    between fits =
        let parts = both_parts (leb h' count) (leb count (h' + f')) fits in
        let low : h' ≤ count = grind (arith, nat_tests, parts.0) in
        let high : count ≤ h' + f' = grind (arith, nat_tests, parts.1) in
        let one : leb h count ≡ true = (let le : h ≤ count = omega (arith, low, more) in grind (arith, nat_tests)) in
        let two : leb count (h + f) ≡ true = (let le : count ≤ h + f = omega (arith, high, no_more) in grind (arith, nat_tests)) in
        rw (one, two) refl

    least : leb (h' + (column - 1)) count ≡ true → leb (h + (column - 1)) count ≡ true
    least fits = (let low : h' + (column - 1) ≤ count = grind (arith, nat_tests) in let le : h + (column - 1) ≤ count = omega (arith, low, more) in grind (arith, nat_tests))

    by : (z o : Bool) → cond z true (cond o (leb h' count && leb count (h' + f')) (leb (h' + (column - 1)) count)) ≡ true
        → cond z true (cond o (leb h count && leb count (h + f)) (leb (h + (column - 1)) count)) ≡ true
    by true o fits = refl
    by false true fits = between fits
    by false false fits = least fits

substitution_weaker : (asked : ℤ) (d f d' f' count : ℕ) → d ≤ d' → d' + f' ≤ d + f → substitution_fits asked d' f' count ≡ true → substitution_fits asked d f count ≡ true
substitution_weaker (pos n) d f d' f' count more no_more fits = fits
substitution_weaker (negsuc n) d f d' f' count more no_more fits = by (eqb n 0) fits
  where
    by : (z : Bool) → cond z (eqb count 0) (leb d' count && leb count (d' + f')) ≡ true → cond z (eqb count 0) (leb d count && leb count (d + f)) ≡ true
    by true is = is
    by false is =
        let parts = both_parts (leb d' count) (leb count (d' + f')) is in
        let low : d' ≤ count = grind (arith, nat_tests, parts.0) in
        let high : count ≤ d' + f' = grind (arith, nat_tests, parts.1) in
        let one : leb d count ≡ true = (let le : d ≤ count = omega (arith, low, more) in grind (arith, nat_tests)) in
        let two : leb count (d + f) ≡ true = (let le : count ≤ d + f = omega (arith, high, no_more) in grind (arith, nat_tests)) in
        rw (one, two) refl

rings_shared : (stays : Bool) (asked : ℤ) (d d' count : ℕ) → (stays ≡ true → d ≡ d') → ring_bonds_fit asked d' count ≡ true → ring_bonds_fit (shared_rings stays asked) d count ≡ true
rings_shared stays (pos n) d d' count same fits = fits
rings_shared stays (negsuc zero) d d' count same fits = fits
rings_shared true (negsuc (suc n)) d d' count same fits = subst (λ (m : ℕ). ring_bonds_fit (negsuc (suc n)) m count ≡ true) (sym (same refl)) fits
rings_shared false (negsuc (suc n)) d d' count same fits = refl

-- the type that is asked where a ring may close through an open slot
abbrev weaker_kind : ℕ → ℕ
weaker_kind k = shared_kind false k

-- a bond that meets a type meets the weaker one, whatever is aromatic in the graphs
kind_weaker : (k : ℕ) (a c : Bool) (bond : MolBond) → takes_kind (cond (a && (eqb k 1 || eqb k 2)) 4 k) bond ≡ true
    → takes_kind (cond (c && (eqb (weaker_kind k) 1 || eqb (weaker_kind k) 2)) 4 (weaker_kind k)) bond ≡ true
kind_weaker k a c bond takes = elim (cases_eq k 1) [
  | inl one ↦ subst (λ (n : ℕ). takes_kind (cond (c && (eqb (weaker_kind n) 1 || eqb (weaker_kind n) 2)) 4 (weaker_kind n)) bond ≡ true) (sym one)
      (of_one a c (subst (λ (n : ℕ). takes_kind (cond (a && (eqb n 1 || eqb n 2)) 4 n) bond ≡ true) one takes))
  | inr not_one ↦ elim (cases_eq k 2) [
    | inl two ↦ subst (λ (n : ℕ). takes_kind (cond (c && (eqb (weaker_kind n) 1 || eqb (weaker_kind n) 2)) 4 (weaker_kind n)) bond ≡ true) (sym two)
        (of_two a c (subst (λ (n : ℕ). takes_kind (cond (a && (eqb n 1 || eqb n 2)) 4 n) bond ≡ true) two takes))
    | inr not_two ↦
        (let e : eqb k 1 ≡ false = grind (arith, nat_tests) in
        let f : eqb k 2 ≡ false = grind (arith, nat_tests) in
        let same : weaker_kind k ≡ k = rw (e, f) refl in
        let here : takes_kind k bond ≡ true = others a (subst (λ (b : Bool). takes_kind (cond (a && (b || eqb k 2)) 4 k) bond ≡ true) e takes) f in
        subst (λ (n : ℕ). takes_kind (cond (c && (eqb n 1 || eqb n 2)) 4 n) bond ≡ true) (sym same) (back c e f here))
  ]
]
  where
    of_one : (b d : Bool) → takes_kind (cond (b && true) 4 1) bond ≡ true → takes_kind (cond (d && false) 4 6) bond ≡ true
    of_one true true is = or_right (is_single bond) bond.aromatic is
    of_one true false is = or_right (is_single bond) bond.aromatic is
    of_one false true is = or_left (is_single bond) bond.aromatic is
    of_one false false is = or_left (is_single bond) bond.aromatic is

    of_two : (b d : Bool) → takes_kind (cond (b && true) 4 2) bond ≡ true → takes_kind (cond (d && false) 4 7) bond ≡ true
    of_two true true is = or_right (is_double bond) bond.aromatic is
    of_two true false is = or_right (is_double bond) bond.aromatic is
    of_two false true is = or_left (is_double bond) bond.aromatic is
    of_two false false is = or_left (is_double bond) bond.aromatic is

    others : (b : Bool) → takes_kind (cond (b && (false || eqb k 2)) 4 k) bond ≡ true → eqb k 2 ≡ false → takes_kind k bond ≡ true
    others b is f = by b (subst (λ (t : Bool). takes_kind (cond (b && (false || t)) 4 k) bond ≡ true) f is)
      where
        by : (t : Bool) → takes_kind (cond (t && (false || false)) 4 k) bond ≡ true → takes_kind k bond ≡ true
        by true is' = is'
        by false is' = is'

    back : (b : Bool) → eqb k 1 ≡ false → eqb k 2 ≡ false → takes_kind k bond ≡ true → takes_kind (cond (b && (eqb k 1 || eqb k 2)) 4 k) bond ≡ true
    back b e f is = rw (e, f) (by b)
      where
        by : (t : Bool) → takes_kind (cond (t && (false || false)) 4 k) bond ≡ true
        by true = is
        by false = is

-- a bond that meets a test meets the one that all completions share
meets_shared : (stays : Bool) (strong weak : GraphBond) (bond : MolBond) → weak.kind ≡ shared_kind stays strong.kind → weak.topology ≡ strong.topology
    → (stays ≡ true → weak.aromatic ≡ strong.aromatic)
    → meets strong bond ≡ true → meets weak bond ≡ true
meets_shared stays strong weak bond kinds topologies same met =
    let parts = both_parts (takes_kind (asked_kind strong) bond) (takes_topology strong.topology bond) met in
    let kind : takes_kind (asked_kind weak) bond ≡ true = by stays refl parts.0 in
    let topology : takes_topology weak.topology bond ≡ true = ap (λ (t : ℕ). takes_topology t bond) topologies ∙ parts.1 in
    rw (kind, topology) refl
  where
    by : (t : Bool) → stays ≡ t → takes_kind (asked_kind strong) bond ≡ true → takes_kind (asked_kind weak) bond ≡ true
    by true is takes =
        let kept : weak.kind ≡ strong.kind = kinds ∙ ap (λ (u : Bool). shared_kind u strong.kind) is in
        ap (λ (n : ℕ). takes_kind (cond (weak.aromatic && (eqb n 1 || eqb n 2)) 4 n) bond) kept
        ∙ ap (λ (a : Bool). takes_kind (cond (a && (eqb strong.kind 1 || eqb strong.kind 2)) 4 strong.kind) bond) (same is) ∙ takes
    by false is takes =
        let weaker : weak.kind ≡ weaker_kind strong.kind = kinds ∙ ap (λ (u : Bool). shared_kind u strong.kind) is in
        subst (λ (n : ℕ). takes_kind (cond (weak.aromatic && (eqb n 1 || eqb n 2)) 4 n) bond ≡ true) (sym weaker) (kind_weaker strong.kind strong.aromatic weak.aromatic bond takes)

-- ---- bonds of an atom of a graph

-- how many bonds of atom x lead to an atom that passes the test
abbrev bonds_to : (ℕ → Bool) → ℕ → List GraphBond → ℕ
bonds_to T x bonds = count_by (λ bond. touches x (graph_edge bond) && T (other_end x (graph_edge bond))) bonds

abbrev query_ends : QueryBond → Ends
query_ends bond = with_ends bond.first bond.second

abbrev ends_spoke : (ℕ → Bool) → ℕ → Ends → Bool
ends_spoke T x a = meets_at T x a.first a.second

spoke_is : (T : ℕ → Bool) (x : ℕ) (bond : GraphBond) → bond.first < bond.second
    → (touches x (graph_edge bond) && T (other_end x (graph_edge bond))) ≡ meets_at T x bond.first bond.second
spoke_is T x bond less = by (eqb bond.first x) (eqb bond.second x) refl refl
  where
    by : (a b : Bool) → eqb bond.first x ≡ a → eqb bond.second x ≡ b → ((a || b) && T (cond a bond.second bond.first)) ≡ ((a && T bond.second) || (b && T bond.first))
    by true true e f = absurd (let p : bond.first ≡ x = grind (arith, nat_tests, e) in let q : bond.second ≡ x = grind (arith, nat_tests, f) in omega (arith, p, q, less))
    by true false e f = one (T bond.second)
      where
        one : (t : Bool) → t ≡ (t || false)
        one true = refl
        one false = refl
    by false true e f = refl
    by false false e f = refl

bonds_to_is : (T : ℕ → Bool) (x : ℕ) (graph : GraphView) → IsGraph graph → bonds_to T x graph.bonds ≡ count_by (ends_spoke T x) (map ends_of graph.bonds)
bonds_to_is T x graph kept =
    count_same (λ bond. touches x (graph_edge bond) && T (other_end x (graph_edge bond))) (λ bond. ends_spoke T x (ends_of bond)) graph.bonds
    (λ bond held. spoke_is T x bond (lower bond held)) ∙ sym (count_mapped (ends_spoke T x) ends_of graph.bonds)
  where
    lower : (bond : GraphBond) → Contains graph.bonds bond → bond.first < bond.second
    lower bond (k, below, is) = subst (λ (b : GraphBond). b.first < b.second) is (kept.sketch.lower_first k bond below)

-- the bonds of a graph differ in their ends
ends_differ : (graph : GraphView) → IsGraph graph → AllPairs (λ a b. a ≢ b) (map ends_of graph.bonds)
ends_differ graph kept i j d less within same =
    let below : j < length graph.bonds = omega (arith, length-map graph.bonds ends_of) in
    let b : GraphBond = record { first = 0; second = 0; kind = 0; topology = 0; ring = false; aromatic = false } in
    let one = get_or-map ends_of graph.bonds i b d (omega (arith, less)) in
    let two = get_or-map ends_of graph.bonds j b d below in
    let both : ends_of (get_or graph.bonds i b) ≡ ends_of (get_or graph.bonds j b) = sym one ∙ same ∙ two in
    let first : (get_or graph.bonds i b).first ≡ (get_or graph.bonds j b).first = ap (λ (a : Ends). a.first) both in
    let second : (get_or graph.bonds i b).second ≡ (get_or graph.bonds j b).second = ap (λ (a : Ends). a.second) both in
    let order : IsBefore (get_or graph.bonds i b) (get_or graph.bonds j b) = kept.sketch.order i j b less below in
    elim order [
      | inl up ↦ omega (arith, first, up)
      | inr up ↦ omega (arith, second, up.1)
    ]

-- ---- the whole and the part

module _ (stays : Bool) (small large : Fragment) (places : List ℕ) (shared : IsShared small large places)
    (hung : stays ≡ true → (home : ℕ → ℕ) × (root : ℕ → ℕ) × IsHung small large places home root)
    (part whole : GraphView) (weak : DrawsShared stays small part) (drawn : Draws large whole) where
  abbrev e : ℕ → ℕ
  e = image places

  -- the place is one of the part's atoms
  abbrev IsPlace : ℕ → Type 0
  IsPlace p = (1 ≤ p) × (p ≤ length small.atoms)

  -- ---- counts

  abbrev moved_ends : Ends → Ends
  moved_ends a = with_ends (image places a.first) (image places a.second)

  module _ (T P : ℕ → Bool) (agree : (q : ℕ) → (1 ≤ q) × (q ≤ length small.atoms) → T q ≡ P (image places q)) (x : ℕ) (is_x : (1 ≤ x) × (x ≤ length small.atoms)) where
    same_spoke : (f s : ℕ) → (1 ≤ f) × (f ≤ length small.atoms) → (1 ≤ s) × (s ≤ length small.atoms) → meets_at T x f s ≡ meets_at P (image places x) (image places f) (image places s)
    same_spoke f s is_f is_s =
        ap (λ (b : Bool). (eqb f x && b) || (eqb s x && T f)) (agree s is_s) ∙ ap (λ (b : Bool). (eqb f x && P (e s)) || (eqb s x && b)) (agree f is_f)
        ∙ ap (λ (b : Bool). (b && P (e s)) || (eqb s x && P (e f))) (same_place f is_f) ∙ ap (λ (b : Bool). (eqb (e f) (e x) && P (e s)) || (b && P (e f))) (same_place s is_s)
      where
        same_place : (q : ℕ) → (1 ≤ q) × (q ≤ length small.atoms) → eqb q x ≡ eqb (image places q) (image places x)
        same_place q is_q = elim (cases_eq q x) [
          | inl same ↦ (let here : image places q ≡ image places x = ap (image places) same in grind (arith, nat_tests))
          | inr other ↦ elim (cases_eq (image places q) (image places x)) [
            | inl same ↦ absurd (other (differ stays small large places shared part whole weak drawn q x is_q is_x same))
            | inr apart ↦ grind (arith, nat_tests)
          ]
        ]

    -- the bonds of the part are among those of the whole
    moved_held : (a : Ends) → Contains (map moved_ends (map ends_of part.bonds)) a → Contains (map ends_of whole.bonds) a
    moved_held a held =
        let one = of_mapped moved_ends (map ends_of part.bonds) a held in
        let two = of_mapped ends_of part.bonds one.0 one.1 in
        let there = bond_shared stays small large places shared part whole weak drawn two.0 two.1 in
        let first : (ends_of there.other).first ≡ (moved_ends one.0).first = there.first ∙ ap (λ (b : Ends). e b.first) two.2 in
        let second : (ends_of there.other).second ≡ (moved_ends one.0).second = there.second ∙ ap (λ (b : Ends). e b.second) two.2 in
        let same : ends_of there.other ≡ a = ap (λ (q : ℕ). with_ends q there.other.second) first ∙ ap (with_ends (e one.0.first)) second ∙ one.2 in
        subst (Contains (map ends_of whole.bonds)) same (in_mapped ends_of whole.bonds there.other there.held)

    moved_differ : AllPairs (λ a b. a ≢ b) (map moved_ends (map ends_of part.bonds))
    moved_differ i j d less within same =
        let below : j < length (map ends_of part.bonds) = omega (arith, length-map (map ends_of part.bonds) moved_ends) in
        let before : i < length (map ends_of part.bonds) = omega (arith, less) in
        let o : Ends = with_ends 0 0 in
        let one = get_or-map moved_ends (map ends_of part.bonds) i o d before in
        let two = get_or-map moved_ends (map ends_of part.bonds) j o d below in
        let both : moved_ends (get_or (map ends_of part.bonds) i o) ≡ moved_ends (get_or (map ends_of part.bonds) j o) = sym one ∙ same ∙ two in
        let a = of_mapped ends_of part.bonds (get_or (map ends_of part.bonds) i o) (Contains-get_or (map ends_of part.bonds) i o before) in
        let b = of_mapped ends_of part.bonds (get_or (map ends_of part.bonds) j o) (Contains-get_or (map ends_of part.bonds) j o below) in
        let is_a = bond_shared stays small large places shared part whole weak drawn a.0 a.1 in
        let is_b = bond_shared stays small large places shared part whole weak drawn b.0 b.1 in
        let first : a.0.first ≡ b.0.first = differ stays small large places shared part whole weak drawn a.0.first b.0.first is_a.is_first is_b.is_first
        (ap (λ (c : Ends). e c.first) a.2 ∙ ap (λ (c : Ends). c.first) both ∙ ap (λ (c : Ends). e c.first) (sym b.2)) in
        let second : a.0.second ≡ b.0.second = differ stays small large places shared part whole weak drawn a.0.second b.0.second is_a.is_second is_b.is_second
        (ap (λ (c : Ends). e c.second) a.2 ∙ ap (λ (c : Ends). c.second) both ∙ ap (λ (c : Ends). e c.second) (sym b.2)) in
        let equal : get_or (map ends_of part.bonds) i o ≡ get_or (map ends_of part.bonds) j o =
        sym a.2 ∙ ap (λ (q : ℕ). with_ends q a.0.second) first ∙ ap (with_ends b.0.first) second ∙ b.2 in
        ends_differ part weak.kept i j o less below equal

    -- no fewer bonds in the whole
    lower : bonds_to T x part.bonds ≤ bonds_to P (image places x) whole.bonds
    lower =
        let one = bonds_to_is T x part weak.kept in
        let two = bonds_to_is P (e x) whole drawn.kept in
        let same = count_mapped (ends_spoke P (e x)) moved_ends (map ends_of part.bonds) in
        let alike = count_same (ends_spoke T x) (λ a. ends_spoke P (e x) (moved_ends a)) (map ends_of part.bonds) (λ a held.
        (let from = of_mapped ends_of part.bonds a held in
        let there = bond_shared stays small large places shared part whole weak drawn from.0 from.1 in
        ap (ends_spoke T x) (sym from.2) ∙ same_spoke from.0.first from.0.second there.is_first there.is_second ∙ ap (λ (b : Ends). ends_spoke P (e x) (moved_ends b)) from.2)) in
        let within = counted_within (ends_spoke P (e x)) (map moved_ends (map ends_of part.bonds)) (map ends_of whole.bonds) moved_differ moved_held in
        omega (arith, one, two, same, alike, within)

    -- and no more than the part has bonds and free ends
    upper : (d : GraphAtom) → bonds_to P (image places x) whole.bonds + (get_or large.atoms (image places x - 1) d).free ≤ bonds_to T x part.bonds + (get_or small.atoms (x - 1) d).free
    upper d =
        let one = bonds_to_is T x part weak.kept in
        let two = bonds_to_is P (e x) whole drawn.kept in
        let inside = counted_within (ends_spoke P (e x)) (map ends_of whole.bonds) (map query_ends large.bonds) (ends_differ whole drawn.kept) (λ a held.
        (let from = of_mapped ends_of whole.bonds a held in
        subst (Contains (map query_ends large.bonds)) from.2 (in_mapped query_ends large.bonds (unmarked from.0) (drawn.each from.0 from.1)))) in
        let large_count = count_mapped (ends_spoke P (e x)) query_ends large.bonds in
        let spokes = shared.spokes P x d is_x.0 is_x.1 in
        let turned = sum_by-IsPermutation (λ b. one_if (spoke T x b)) (map (shared_bond stays) small.bonds) (map unmarked part.bonds) weak.bonds in
        let of_part = count_mapped (spoke T x) unmarked part.bonds in
        let of_small = count_mapped (spoke T x) (shared_bond stays) small.bonds in
        let part_count = count_mapped (ends_spoke T x) ends_of part.bonds in
        let alike = count_same (spoke T x) (spoke (λ q. P (e q)) x) small.bonds (λ b held.
        (let ends = shared.ends b held in
        ap (λ (t : Bool). (eqb b.first x && t) || (eqb b.second x && T b.first)) (agree b.second ends.second)
        ∙ ap (λ (t : Bool). (eqb b.first x && P (e b.second)) || (eqb b.second x && t)) (agree b.first ends.first))) in
        omega (arith, one, two, inside, large_count, spokes, turned, of_part, of_small, part_count, alike)

  -- ---- atoms

  no_atom : GraphAtom
  no_atom = record { test = record { kind = Anything; charge = pos 0; radical = 0; hydrogens = 0; ring_bonds = pos 0; substitution = pos 0; unsaturated = false }; free = 0 }

  -- the atom of the part at a place
  part_at : (x : ℕ) (d : GraphAtom) → (1 ≤ x) × (x ≤ length small.atoms) → slice_get part.atoms (x - 1) ≡ Some ((shared_atom stays) (get_or small.atoms (x - 1) d))
  part_at x d is =
      let below : x - 1 < length small.atoms = omega (arith, is.0, is.1) in
      let below' : x - 1 < length (map (shared_atom stays) small.atoms) = omega (arith, below, length-map small.atoms (shared_atom stays)) in
      ap (λ (atoms : List GraphAtom). slice_get atoms (x - 1)) weak.atoms
      ∙ at_place (map (shared_atom stays) small.atoms) (x - 1) ((shared_atom stays) (get_or small.atoms (x - 1) d)) below'
      ∙ ap Some (get_or-map (shared_atom stays) small.atoms (x - 1) d ((shared_atom stays) (get_or small.atoms (x - 1) d)) below)

  -- and that of the whole
  whole_at : (x : ℕ) (d : GraphAtom) → (1 ≤ x) × (x ≤ length small.atoms) → slice_get whole.atoms (image places x - 1) ≡ Some (get_or large.atoms (image places x - 1) d)
  whole_at x d is =
      let inside = shared.within x is.0 is.1 in
      ap (λ (atoms : List GraphAtom). slice_get atoms (e x - 1)) drawn.atoms ∙ at_place large.atoms (e x - 1) d (omega (arith, inside.0, inside.1))

  -- hydrogens are drawn as hydrogens
  agree : (q : ℕ) → (1 ≤ q) × (q ≤ length small.atoms) → is_drawn_hydrogen part.atoms q ≡ is_drawn_hydrogen whole.atoms (image places q)
  unfolding no_atom
  agree q is =
      ap (passes_some (λ (atom : GraphAtom). is_hydrogen_kind atom.test.kind)) (part_at q no_atom is)
      ∙ ap (λ (t : AtomTest). is_hydrogen_kind t.kind) (shared.tests q no_atom is.0 is.1)
      ∙ sym (ap (passes_some (λ (atom : GraphAtom). is_hydrogen_kind atom.test.kind)) (whole_at q no_atom is))

  module _ (mol : Molecule) (hit : List ℕ) (is_hit : IsEmbedding whole mol hit) where
    image_shared : (x : ℕ) → (1 ≤ x) × (x ≤ length small.atoms) → image (map (image hit) places) x ≡ image hit (image places x)
    image_shared x is = get_or-map (image hit) places (x - 1) 0 0 (omega (arith, is.0, is.1, shared.size))

    fits : (x : ℕ) → (1 ≤ x) × (x ≤ length small.atoms) → FitsAtom part mol x (image hit (image places x))
    fits x is =
        let inside = shared.within x is.0 is.1 in
        let there = is_hit.atoms (e x) inside.0 (omega (arith, inside.1, ap length drawn.atoms)) in
        let b = get_or small.atoms (x - 1) there.asked in
        let found : get_or large.atoms (e x - 1) there.asked ≡ there.asked =
        some_is (get_or large.atoms (e x - 1) there.asked) there.asked (sym (whole_at x there.asked is) ∙ there.asked_at) in
        let test : b.test ≡ there.asked.test = shared.tests x there.asked is.0 is.1 ∙ ap (λ (a : GraphAtom). a.test) found in
        let free : (get_or large.atoms (e x - 1) there.asked).free ≡ there.asked.free = ap (λ (a : GraphAtom). a.free) found in
        let h_more = lower (is_drawn_hydrogen part.atoms) (is_drawn_hydrogen whole.atoms) agree x is in
        let h_most = upper (is_drawn_hydrogen part.atoms) (is_drawn_hydrogen whole.atoms) agree x is there.asked in
        let o_more = lower (λ q. not (is_drawn_hydrogen part.atoms q)) (λ q. not (is_drawn_hydrogen whole.atoms q)) (λ q at. ap not (agree q at)) x is in
        let o_most = upper (λ q. not (is_drawn_hydrogen part.atoms q)) (λ q. not (is_drawn_hydrogen whole.atoms q)) (λ q at. ap not (agree q at)) x is there.asked in
        record {
          asked = shared_atom stays b;
          asked_at = part_at x there.asked is;
          atom = there.atom;
          atom_at = there.atom_at;
          kind = ap (λ (t : AtomTest). accepts t.kind there.atom.element) test ∙ there.kind;
          charge = ap (λ (t : AtomTest). charge_fits t.charge there.atom.charge) test ∙ there.charge;
          radical = ap (λ (t : AtomTest). radical_fits t.radical there.atom.radical) test ∙ there.radical;
          hydrogens = ap (λ (t : AtomTest). hydrogens_fit t.hydrogens (drawn_hydrogens part x) b.free (hydrogens_at mol (image hit (e x)))) test
              ∙ hydrogens_weaker there.asked.test.hydrogens (drawn_hydrogens part x) b.free (drawn_hydrogens whole (e x)) there.asked.free (hydrogens_at mol (image hit (e x))) h_more
              (omega (arith, h_most, free)) there.hydrogens;
          ring_bonds = ap (λ (t : AtomTest). ring_bonds_fit (shared_rings stays t.ring_bonds) (drawn_rings part x) (rings_at mol (image hit (e x)))) test
              ∙ rings_shared stays there.asked.test.ring_bonds (drawn_rings part x) (drawn_rings whole (e x)) (rings_at mol (image hit (e x)))
              (λ so. (let hangs = hung so in rings_same stays small large places shared part whole weak drawn so hangs.0 hangs.1 hangs.2 x is)) there.ring_bonds;
          substitution = ap (λ (t : AtomTest). substitution_fits t.substitution (drawn_others part x) b.free (others_at mol (image hit (e x)))) test
              ∙ substitution_weaker there.asked.test.substitution (drawn_others part x) b.free (drawn_others whole (e x)) there.asked.free (others_at mol (image hit (e x))) o_more
              (omega (arith, o_most, free)) there.substitution;
          unsaturation = ap (λ (t : AtomTest). unsaturation_fits t.unsaturated (is_unsaturated_at mol (image hit (e x)))) test ∙ there.unsaturation;
        }
      where
        some_is : (a b : GraphAtom) → Some a ≡ Some b → a ≡ b
        some_is a b same = cc

    lies : (bond : GraphBond) → Contains part.bonds bond → IsBondShared stays small large places shared part whole weak drawn bond
        → LiesOn mol bond (image (map (image hit) places) bond.first) (image (map (image hit) places) bond.second)
    lies bond held there =
        let on : LiesOn mol there.other (image hit there.other.first) (image hit there.other.second) = on_bond there.other there.held in
        let first : image hit there.other.first ≡ image (map (image hit) places) bond.first = ap (image hit) there.first ∙ sym (image_shared bond.first there.is_first) in
        let second : image hit there.other.second ≡ image (map (image hit) places) bond.second = ap (image hit) there.second ∙ sym (image_shared bond.second there.is_second) in
        let moved_on : LiesOn mol there.other (image (map (image hit) places) bond.first) (image (map (image hit) places) bond.second) =
        subst (λ (b : ℕ). LiesOn mol there.other (image (map (image hit) places) bond.first) b) second (subst (λ (a : ℕ). LiesOn mol there.other a (image hit there.other.second)) first on) in
        record {
          bond = moved_on.bond;
          joins = moved_on.joins;
          meets = meets_shared stays there.other bond moved_on.bond there.kind there.topology
              (λ so. (let hangs = hung so in (marks_same stays small large places shared part whole weak drawn so hangs.0 hangs.1 hangs.2 bond held there).1)) moved_on.meets;
        }
      where
        on_bond : (other : GraphBond) → Contains whole.bonds other → LiesOn mol other (image hit other.first) (image hit other.second)
        on_bond other (k, below, at) = subst (λ (b : GraphBond). LiesOn mol b (image hit b.first) (image hit b.second)) at (is_hit.bonds k other below)

    -- the embedding at the shared atoms is one of the part
    pub hit_shared : IsEmbedding part mol (map (image hit) places)
    hit_shared = record {
      one_each = length-map places (image hit) ∙ shared.size ∙ sym (atoms_count stays small large places shared part whole weak drawn);
      within = λ i d below.
          let inside : i < length places = omega (arith, below, length-map places (image hit)) in
          let at = place i inside in
          let range = is_hit.within (image places (i + 1) - 1) 0 at.1 in
          let same : get_or (map (image hit) places) i d ≡ image hit (image places (i + 1)) = get_or-map (image hit) places i 0 d inside ∙ ap (image hit) (sym (next i)) in
          subst (λ (a : ℕ). (1 ≤ a) × (a ≤ length mol.atoms)) (sym same) range;
      distinct = λ i j d less below same.
          let inside : j < length places = omega (arith, below, length-map places (image hit)) in
          let before : i < length places = omega (arith, less) in
          let one = place i before in
          let other = place j inside in
          let up = shared.rise (i + 1) (j + 1) (omega arith) (omega (arith, less)) (omega (arith, inside, shared.size)) in
          let a : get_or (map (image hit) places) i d ≡ image hit (image places (i + 1)) = get_or-map (image hit) places i 0 d before ∙ ap (image hit) (sym (next i)) in
          let b : get_or (map (image hit) places) j d ≡ image hit (image places (j + 1)) = get_or-map (image hit) places j 0 d inside ∙ ap (image hit) (sym (next j)) in
          is_hit.distinct (image places (i + 1) - 1) (image places (j + 1) - 1) 0 (omega (arith, up, one.0)) other.1 (sym a ∙ same ∙ b);
      atoms = λ x least most.
          let is : (1 ≤ x) × (x ≤ length small.atoms) = (least, omega (arith, most, atoms_count stays small large places shared part whole weak drawn)) in
          subst (FitsAtom part mol x) (sym (image_shared x is)) (fits x is);
      bonds = λ k d below.
          (let held = Contains-get_or part.bonds k d below in
          lies (get_or part.bonds k d) held (bond_shared stays small large places shared part whole weak drawn (get_or part.bonds k d) held));
    }
      where
        next : (i : ℕ) → image places (i + 1) ≡ get_or places i 0
        next i = (let same : i + 1 - 1 ≡ i = omega arith in ap (λ (k : ℕ). get_or places k 0) same)

        place : (i : ℕ) → i < length places → (1 ≤ image places (i + 1)) × (image places (i + 1) - 1 < length hit)
        place i below =
            let inside = shared.within (i + 1) (omega arith) (omega (arith, below, shared.size)) in
            (inside.0, omega (arith, inside.0, inside.1, is_hit.one_each, ap length drawn.atoms))
