-- The graph of an expansion.
--     whole_code          what was taken of it is all of it
--     fragment_sketch     a fragment of at most 512 atoms with its bonds in order is a sketch
--     graph_of            and with the marks it is the expansion
use Rattle.std.proofs.Common.{◌≡◌, ◌∙◌, ℕ, ◌<◌, ◌≤◌, inl, inr, false, List, [], Some, length, get_or, map, sym, ap, subst, arith, All}
use Rattle.std.specs.Prelude.{AllPairs, Contains, slice_get}
use Rattle.std.specs.List.Sorted.{IsPermutation}
use Rattle.mk_model.specs.BondOrder.{HaveNoPairTwice, lower_first}
use Rattle.std.proofs.lemmas.Bool.{cases_eq, cases_lt}
use Rattle.std.proofs.lemmas.List.{append-nil, get_or-map, length-map}
use Rattle.std.proofs.lemmas.List.Elements.{All-contains, All-map, Contains-get_or}
use Rattle.mk_model.specs.declared.edge.Edge.{Edge}
use Rattle.mk_model.specs.declared.graph.GraphBond.{GraphBond}
use Rattle.mk_model.specs.declared.template.QueryBond.{QueryBond}
use Rattle.mk_model.specs.Codes.{Choice, IsChoice, IsCode, spelling}
use Rattle.mk_model.specs.Edges.{HasEnds, IsBetween as IsEdgeBetween, Joins}
use Rattle.mk_model.specs.Expansions.{IsExpansion, expansion, joined, template_of, pieces_of, unmarked}
use Rattle.mk_model.specs.Graphs.{GraphView, IsBefore, IsGraph, IsUnmarked, graph_edge, graph_edges}
use Rattle.mk_model.specs.Pieces.{Fragment}
use Rattle.mk_model.specs.Queries.{QueryView, slots_of}
use Rattle.mk_model.specs.QueryFits.{QueryFits}
use Rattle.mk_model.specs.Tests.{IsBondInRange}
use Rattle.mk_model.proofs.ForCallers.{one_choice}
use Rattle.mk_model.proofs.ForCallers.{place_is, place_within}
use Rattle.mk_marks.specs.Bare.{bare_bond, bare_bonds}
use Rattle.mk_marks.proofs.ForCallers.{same_at, same_length}
use Rattle.mk_pieces.specs.Begun.{IsExpanded}
use Rattle.mk_pieces.specs.Rooms.{IsSmallTemplate}
use Rattle.mk_pieces.specs.Fragments.{HasOrdered, HasRange, IsFragment, IsLowerFirst, bare}
use Rattle.mk_pieces.specs.Laws.{CodeAndHitAreShort}
use Rattle.mk_pieces.proofs.ChoiceFits.{expansion_fragment}
use Rattle.mk_pieces.proofs.JoinedLemmas.{length_atoms}
use Rattle.mk_pieces.proofs.OrderLemmas.{ordered_of, pairs_once}
use Rattle.mk_pieces.proofs.RoomLemmas.{template_size}

-- ---- the code

pub root_small : (query : QueryView) → QueryFits query → IsSmallTemplate query 0
root_small query fits = record {
  there = place_within query.templates 0 fits.small_root.root fits.small_root.at;
  size = fits.small_root.size;
  adds_up = fits.small_root.adds_up;
  small = fits.small_root.small;
}

-- the choice that was taken spells the whole code
pub whole_code : (query : QueryView) (code rest : List ℕ) (part : Fragment) → IsCode query 0 code → (is : IsExpanded query 0 code rest part) → spelling is.choice ≡ code
whole_code query code rest part is taken =
    let same = one_choice query (slots_of query 0) is.choice taken.choice [] rest is.made taken.made (append-nil (spelling is.choice) ∙ is.spelt ∙ sym taken.spelt) in
    ap spelling (sym same.choices) ∙ is.spelt

-- ---- the atoms

pub few_atoms : (query : QueryView) → QueryFits query → (choice : Choice) → IsChoice query (slots_of query 0) choice → length (expansion query 0 choice).atoms ≤ 512
unfolding expansion joined
few_atoms query fits choice made =
    let small = root_small query fits in
    let whole = template_size query fits small.size small.adds_up 0 small.there choice made in
    omega (arith, whole, small.small, length_atoms (template_of query 0) (pieces_of query (slots_of query 0) choice) (length (template_of query 0).atoms))

-- ---- the sketch

module _ (part : Fragment) (fragment : IsFragment part) (few : length part.atoms ≤ 512) (drawn : List GraphBond) (has : HasOrdered part.bonds drawn) where
  -- what a drawn bond keeps
  record IsKeptBond (d : GraphBond) : Type 0 where
    ends : IsLowerFirst (length part.atoms) (unmarked d)
    test : IsBondInRange d.kind d.topology

  each_kept : All IsKeptBond drawn
  each_kept = λ k d below.
      let from = has.each (get_or drawn k d) (Contains-get_or drawn k d below) in
      let ends : IsLowerFirst (length part.atoms) from.0 = All-contains (IsLowerFirst (length part.atoms)) part.bonds from.0 fragment.ends from.1 in
      let test : HasRange from.0 = All-contains HasRange part.bonds from.0 fragment.bond_tests from.1 in
      subst IsKeptBond from.2 (record { ends = record { least = ends.least; less = ends.less; most = ends.most }; test = record { kind = test.kind; topology = test.topology } })

  -- the edge at a place
  record IsEdgeAt (b : ℕ) (edge : Edge) : Type 0 where
    within : b < length drawn
    is : (d : GraphBond) → graph_edge (get_or drawn b d) ≡ edge

  edge_at : (b : ℕ) (edge : Edge) → slice_get (graph_edges drawn) b ≡ Some edge → IsEdgeAt b edge
  edge_at b edge at =
      let below : b < length drawn = omega (arith, length-map drawn graph_edge, place_within (graph_edges drawn) b edge at) in
      record { within = below; is = λ d. sym (get_or-map graph_edge drawn b d (graph_edge d) below) ∙ place_is (graph_edges drawn) b edge (graph_edge d) at }

  same_ends : (e f : Edge) (x y : ℕ) → e.first < e.second → f.first < f.second → HasEnds e x y → HasEnds f x y → (e.first ≡ f.first) × (e.second ≡ f.second)
  same_ends e f x y less less' h g = (omega (arith, h, g), omega (arith, h, g))

  never_twice : (b c x y : ℕ) → Joins (graph_edges drawn) b x y → Joins (graph_edges drawn) c x y → b < c → ⊥
  never_twice b c x y j k below =
      let d : GraphBond = record { first = 0; second = 0; kind = 0; topology = 0; ring = false; aromatic = false } in
      let at_b = edge_at b j.edge j.at in
      let at_c = edge_at c k.edge k.at in
      let less_b : j.edge.first < j.edge.second = subst (λ (e : Edge). e.first < e.second) (at_b.is d) (each_kept b d at_b.within).ends.less in
      let less_c : k.edge.first < k.edge.second = subst (λ (e : Edge). e.first < e.second) (at_c.is d) (each_kept c d at_c.within).ends.less in
      let same = same_ends j.edge k.edge x y less_b less_c j.ends k.ends in
      let before : IsBefore (get_or drawn b d) (get_or drawn c d) = has.order b c d below at_c.within in
      let f : (get_or drawn b d).first ≡ j.edge.first = ap (λ (e : Edge). e.first) (at_b.is d) in
      let g : (get_or drawn b d).second ≡ j.edge.second = ap (λ (e : Edge). e.second) (at_b.is d) in
      let h : (get_or drawn c d).first ≡ k.edge.first = ap (λ (e : Edge). e.first) (at_c.is d) in
      let i : (get_or drawn c d).second ≡ k.edge.second = ap (λ (e : Edge). e.second) (at_c.is d) in
      elim before [
        | inl less ↦ omega (arith, same)
        | inr less ↦ omega (arith, same, less.1)
      ]

  once : (b c x y : ℕ) → Joins (graph_edges drawn) b x y → Joins (graph_edges drawn) c x y → b ≡ c
  once b c x y j k =
      elim (cases_eq b c) [
        | inl same ↦ same
        | inr other ↦ elim (cases_lt b c) [
          | inl less ↦ absurd (never_twice b c x y j k less)
          | inr more ↦ absurd (never_twice c b x y k j (omega arith))
        ]
      ]

  pub fragment_sketch : IsUnmarked (record { atoms = part.atoms; bonds = drawn })
  fragment_sketch = record {
    few = few;
    tests = fragment.tests;
    bond_tests = λ k d below. (each_kept k d below).test;
    graph = record {
      ends = All-map (IsEdgeBetween (length part.atoms)) graph_edge drawn
          (λ k d below.
          let e = (each_kept k d below).ends in
          let less : (get_or drawn k d).first < (get_or drawn k d).second = e.less in
          record { first = (e.least, omega (arith, e.most)); second = (omega (arith, e.least), e.most); differ = λ same. omega arith });
      once = once;
    };
    lower_first = λ k d below. (each_kept k d below).ends.less;
    order = has.order;
  }

  -- ---- the graph

  -- a bond without its marks is the same before and after they are put
  unmarked_same : (old new : GraphBond) → bare_bond new ≡ bare_bond old → unmarked new ≡ unmarked old
  unmarked_same old new same = ap unmarked same

  pub bonds_drawn : (bonds : List GraphBond) → bare_bonds bonds ≡ bare_bonds drawn → (bond : GraphBond) → Contains bonds bond → Contains part.bonds (unmarked bond)
  bonds_drawn bonds same bond inside =
      let k = inside.0 in
      let long = same_length drawn bonds same in
      let below : k < length drawn = omega (arith, inside.1) in
      let from = has.each (get_or drawn k bond) (Contains-get_or drawn k bond below) in
      let here : unmarked bond ≡ unmarked (get_or drawn k bond) = ap unmarked (sym inside.2) ∙ unmarked_same (get_or drawn k bond) (get_or bonds k bond) (same_at drawn bonds k bond same inside.1) in
      let there : from.0 ≡ unmarked bond = ap unmarked from.2 ∙ sym here in
      subst (Contains part.bonds) there from.1

  pub all_bonds_drawn : (bonds : List GraphBond) → bare_bonds bonds ≡ bare_bonds drawn → (bond : QueryBond) → Contains part.bonds bond → Contains (map unmarked bonds) bond
  all_bonds_drawn bonds same bond inside =
      let there = has.all bond inside in
      let k = there.0 in
      let d = bare bond in
      let long = same_length drawn bonds same in
      let below : k < length bonds = omega (arith, there.1) in
      let here : unmarked (get_or bonds k d) ≡ unmarked (get_or drawn k d) = unmarked_same (get_or drawn k d) (get_or bonds k d) (same_at drawn bonds k d same below) in
      (k, omega (arith, length-map bonds unmarked), get_or-map unmarked bonds k d bond below ∙ here ∙ ap unmarked there.2)

-- ---- what was taken of the code

module _ (query : QueryView) (fits : QueryFits query) (code rest : List ℕ) (part : Fragment) (taken : IsExpanded query 0 code rest part) where
  pub taken_fragment : IsFragment part
  taken_fragment = subst IsFragment (sym taken.is) (expansion_fragment query fits 0 (root_small query fits).there taken.choice taken.made)

  pub taken_few : length part.atoms ≤ 512
  taken_few = omega (arith, few_atoms query fits taken.choice taken.made, ap (λ (p : Fragment). length p.atoms) taken.is)

  -- its bonds without marks, put in order
  pub put_ordered : (bonds drawn : List GraphBond) → bonds ≡ map bare part.bonds → IsPermutation (map lower_first bonds) drawn → (HaveNoPairTwice bonds → AllPairs IsBefore drawn)
      → HasOrdered part.bonds drawn
  put_ordered bonds drawn is same order =
      let same' : IsPermutation (map lower_first (map bare part.bonds)) drawn = subst (λ (bs : List GraphBond). IsPermutation (map lower_first bs) drawn) is same in
      let once : HaveNoPairTwice bonds = subst HaveNoPairTwice (sym is) (pairs_once (length part.atoms) part.bonds taken_fragment.ends taken_fragment.apart) in
      ordered_of (length part.atoms) part.bonds taken_fragment.ends drawn same' (order once)

  -- the graph with these atoms and bonds is the expansion
  pub graph_of : IsCode query 0 code → (drawn : List GraphBond) → HasOrdered part.bonds drawn → (graph : GraphView) → IsGraph graph → graph.atoms ≡ part.atoms
      → bare_bonds graph.bonds ≡ bare_bonds drawn → IsExpansion query code graph
  graph_of is drawn has graph drawing atoms bonds =
      let whole = ap (λ (p : Fragment). p.bonds) taken.is in
      record {
        choice = taken.choice;
        made = taken.made;
        spelt = whole_code query code rest part is taken;
        kept = drawing;
        atoms = atoms ∙ ap (λ (p : Fragment). p.atoms) taken.is;
        each = λ bond inside. subst (λ (bs : List QueryBond). Contains bs (unmarked bond)) whole (bonds_drawn part taken_fragment taken_few drawn has graph.bonds bonds bond inside);
        all = λ bond inside. all_bonds_drawn part taken_fragment taken_few drawn has graph.bonds bonds bond (subst (λ (bs : List QueryBond). Contains bs bond) (sym whole) inside);
      }

-- ---- short codes

-- a code and a hit of its expansion together have at most 512 numbers
pub short : CodeAndHitAreShort
unfolding expansion joined
short query code graph mol hit fits is found =
    let small = root_small query fits in
    let whole = template_size query fits small.size small.adds_up 0 small.there is.choice is.made in
    let atoms = length_atoms (template_of query 0) (pieces_of query (slots_of query 0) is.choice) (length (template_of query 0).atoms) in
    omega (arith, whole, small.small, atoms, ap length is.spelt, ap length is.atoms, found.one_each)
