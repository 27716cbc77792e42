-- The graph of a part and that of the whole, and their marks where all else of the whole hangs on the part
-- by bridges.
--     Draws part graph             a graph has the atoms and bonds of a fragment
--     DrawsShared stays part graph a graph has them with the tests that stay
--     bond_shared                  a bond of the part, and the bond of the whole
--     marks_same                   where all else hangs by bridges, both have the same marks
--     rings_same                   and an atom has as many ring bonds in both
use Rattle.std.proofs.Common.{◌≡◌, ◌≢◌, ◌∙◌, ◌⊎◌, ℕ, zero, suc, ◌<◌, ◌≤◌, inl, inr, Bool, true, false, ◌&&◌, ◌||◌, eqb, List, [], ◌∷◌, Some, length, get_or, map, refl, sym, ap, subst, arith, AllPairs, Contains}
use Rattle.std.specs.Prelude.{count_by, filter, slice_get}
use Rattle.std.specs.List.Sorted.{IsPermutation}
use Rattle.std.proofs.lemmas.Bool.{cases_eq, cases_lt}
use Rattle.std.proofs.lemmas.Bool.Decides.{nat_tests}
use Rattle.std.proofs.lemmas.List.{get_or-map, length-map}
use Rattle.std.proofs.lemmas.List.Elements.{Contains-get_or}
use Rattle.std.proofs.lemmas.List.Kept.{AllPairs-filter}
use Rattle.std.proofs.lemmas.List.Sorted.{Contains-permutation, IsPermutation-sym}
use Rattle.std.proofs.lemmas.List.Sums.{length-filter}
use Rattle.mk_model.specs.declared.edge.Edge.{Edge}
use Rattle.mk_model.specs.declared.graph.GraphBond.{GraphBond}
use Rattle.mk_model.specs.declared.template.QueryBond.{QueryBond}
use Rattle.mk_model.specs.Edges.{HasEnds, HasKind, IsSimple, Joins, touches}
use Rattle.mk_model.specs.Expansions.{unmarked}
use Rattle.mk_model.specs.Fitting.{drawn_rings}
use Rattle.mk_model.specs.Graphs.{GraphView, HasGraphMarks, IsBefore, IsGraph, graph_edge, graph_edges}
use Rattle.mk_model.specs.Hits.{image}
use Rattle.mk_model.specs.Pieces.{Fragment}
use Rattle.mk_text.proofs.ForCallers.{both as both_parts}
use Rattle.mk_model.proofs.ForCallers.{at_place, kept_all, kept_within, place_is, place_within}
use Rattle.mk_pieces.proofs.JoiningLemmas.{in_mapped}
use Rattle.mk_expand.specs.Bridges.{HangsOn, LiesThere, SameKind}
use Rattle.mk_expand.specs.OpenGraphs.{shared_atom, shared_bond, shared_kind}
use Rattle.mk_expand.proofs.BridgeLemmas.{aromatic_stays, none_leads_away, rings_stay}
use Rattle.mk_expand.proofs.CountLemmas.{count_cons}
use Rattle.mk_open_codes.proofs.HungLemmas.{IsHung, LiesSo}
use Rattle.mk_open_codes.proofs.PairLemmas.{Ends, counted_within, with_ends}
use Rattle.mk_open_codes.proofs.SharedLemmas.{IsShared, moved}

-- one of a mapped list
pub of_mapped : {X Y : Type 0} (f : X → Y) (xs : List X) (y : Y) → Contains (map f xs) y → (x : X) × Contains xs x × (f x ≡ y)
of_mapped f [] y (k, below, is) = absurd (omega (arith, below))
of_mapped f (x ∷ xs) y (zero, below, is) = (x, (0, omega arith, refl), is)
of_mapped f (x ∷ xs) y (suc k, below, is) = (let found = of_mapped f xs y (k, omega (arith, below), is) in (found.0, (suc found.1.0, (let less = found.1.1 in omega arith), found.1.2), found.2))

-- ---- bonds of a graph, and their edges

abbrev pub ends_of : GraphBond → Ends
ends_of bond = with_ends bond.first bond.second

edge_at : (bonds : List GraphBond) (b : ℕ) (bond : GraphBond) → slice_get bonds b ≡ Some bond → slice_get (graph_edges bonds) b ≡ Some (graph_edge bond)
edge_at [] b bond at = absurd cc
edge_at (c ∷ bonds) zero bond at = (let same : c ≡ bond = cc in ap (λ (d : GraphBond). Some (graph_edge d)) same)
edge_at (c ∷ bonds) (suc b) bond at = edge_at bonds b bond at

-- the bond that is an edge
record IsBondAt (bonds : List GraphBond) (b : ℕ) (edge : Edge) : Type 0 where
  bond : GraphBond
  at : slice_get bonds b ≡ Some bond
  is : graph_edge bond ≡ edge

bond_at : (bonds : List GraphBond) (b : ℕ) (edge : Edge) → slice_get (graph_edges bonds) b ≡ Some edge → IsBondAt bonds b edge
bond_at [] b edge at = absurd cc
bond_at (c ∷ bonds) zero edge at = record { bond = c; at = refl; is = cc }
bond_at (c ∷ bonds) (suc b) edge at = (let later = bond_at bonds b edge at in record { bond = later.bond; at = later.at; is = later.is })

held_at : (bonds : List GraphBond) (b : ℕ) (bond : GraphBond) → slice_get bonds b ≡ Some bond → Contains bonds bond
held_at bonds b bond at = (b, place_within bonds b bond at, place_is bonds b bond bond at)

place_held : (bonds : List GraphBond) (bond : GraphBond) → Contains bonds bond → (k : ℕ) × (slice_get bonds k ≡ Some bond)
place_held bonds bond (k, below, is) = (k, at_place bonds k bond below ∙ ap Some is)

joins_of : (bonds : List GraphBond) (k : ℕ) (bond : GraphBond) → slice_get bonds k ≡ Some bond → Joins (graph_edges bonds) k bond.first bond.second
joins_of bonds k bond at = record { edge = graph_edge bond; at = edge_at bonds k bond at; ends = inl (refl, refl) }

-- one bond stands at a place
one_bond : (bonds : List GraphBond) (b c : ℕ) (bond other : GraphBond) → slice_get bonds b ≡ Some bond → slice_get bonds c ≡ Some other → b ≡ c → bond ≡ other
one_bond bonds b c bond other at at' same = (let both : Some bond ≡ Some other = sym at ∙ ap (slice_get bonds) same ∙ at' in cc)

-- two bonds of one type
same_kinds : (bonds others : List GraphBond) (b c : ℕ) (bond other : GraphBond) → slice_get bonds b ≡ Some bond → slice_get others c ≡ Some other → bond.kind ≡ other.kind
    → SameKind (graph_edges bonds) b (graph_edges others) c
same_kinds bonds others b c bond other at at' same kind = (one bonds others b c bond other at at' same, one others bonds c b other bond at' at (sym same))
  where
    one : (xs ys : List GraphBond) (m n : ℕ) (x y : GraphBond) → slice_get xs m ≡ Some x → slice_get ys n ≡ Some y → x.kind ≡ y.kind → HasKind (graph_edges xs) m kind → HasKind (graph_edges ys) n kind
    one xs ys m n x y is is' e has =
        let both : Some (graph_edge x) ≡ Some has.edge = sym (edge_at xs m x is) ∙ has.at in
        let edges : graph_edge x ≡ has.edge = cc in
        record { edge = graph_edge y; at = edge_at ys n y is'; is = sym e ∙ ap (λ (d : Edge). d.kind) edges ∙ has.is }

same_bool : (a b : Bool) → (a ≡ true → b ≡ true) → (b ≡ true → a ≡ true) → a ≡ b
same_bool true b forth back = sym (forth refl)
same_bool false true forth back = back refl
same_bool false false forth back = refl

joins_back : (bonds : List Edge) (b x y : ℕ) → Joins bonds b x y → Joins bonds b y x
joins_back bonds b x y j = record { edge = j.edge; at = j.at; ends = by j.ends }
  where
    by : HasEnds j.edge x y → HasEnds j.edge y x
    by (inl is) = inr is
    by (inr is) = inl is

-- ---- counts of bonds

count_all : (xs : List Ends) → count_by (λ a. true) xs ≡ length xs
count_all [] = refl
count_all (x ∷ xs) = omega (arith, count_cons (λ (a : Ends). true) x xs, count_all xs)

no_bond : GraphBond
no_bond = record { first = 0; second = 0; kind = 0; topology = 0; ring = false; aromatic = false }

-- no more bonds pass a test than others pass another, where each has one of these, at ends of its own
count_injected : (p q : GraphBond → Bool) (f g : GraphBond → Ends) (xs ys : List GraphBond) → AllPairs (λ a b. f a ≢ f b) xs
    → ((x : GraphBond) → Contains xs x → p x ≡ true → (y : GraphBond) × Contains ys y × (q y ≡ true) × (g y ≡ f x)) → count_by p xs ≤ count_by q ys
count_injected p q f g xs ys distinct there =
    let within = counted_within (λ a. true) (map f (filter p xs)) (map g (filter q ys)) apart member in
    omega (arith, within, count_all (map f (filter p xs)), count_all (map g (filter q ys)), length-map (filter p xs) f, length-map (filter q ys) g, length-filter p xs, length-filter q ys)
  where
    kept : AllPairs (λ a b. f a ≢ f b) (filter p xs)
    kept = AllPairs-filter (λ a b. f a ≢ f b) p xs distinct

    apart : AllPairs (λ a b. a ≢ b) (map f (filter p xs))
    apart i j d less within same =
        let below : j < length (filter p xs) = omega (arith, within, length-map (filter p xs) f) in
        let one = get_or-map f (filter p xs) i no_bond d (omega (arith, less, below)) in
        let two = get_or-map f (filter p xs) j no_bond d below in
        kept i j no_bond less below (sym one ∙ same ∙ two)

    member : (a : Ends) → Contains (map f (filter p xs)) a → Contains (map g (filter q ys)) a
    member a held =
        let from = of_mapped f (filter p xs) a held in
        let is = kept_within p xs from.0 from.1 in
        let found = there from.0 is.0 is.1 in
        subst (Contains (map g (filter q ys))) (found.3 ∙ from.2) (in_mapped g (filter q ys) found.0 (kept_all q ys found.0 found.1 found.2))

-- ---- graphs of fragments

-- the graph has the atoms and the bonds of the fragment
pub record Draws (part : Fragment) (graph : GraphView) : Type 0 where
  pub kept : IsGraph graph
  pub atoms : graph.atoms ≡ part.atoms
  pub each : (bond : GraphBond) → Contains graph.bonds bond → Contains part.bonds (unmarked bond)
  pub all : (bond : QueryBond) → Contains part.bonds bond → Contains (map unmarked graph.bonds) bond

-- the graph has them with the tests that stay
pub record DrawsShared (stays : Bool) (part : Fragment) (graph : GraphView) : Type 0 where
  pub kept : IsGraph graph
  pub atoms : graph.atoms ≡ map (shared_atom stays) part.atoms
  pub bonds : IsPermutation (map (shared_bond stays) part.bonds) (map unmarked graph.bonds)

module _ (stays : Bool) (small large : Fragment) (places : List ℕ) (shared : IsShared small large places) (part whole : GraphView)
    (weak : DrawsShared stays small part) (drawn : Draws large whole) where
  abbrev e : ℕ → ℕ
  e = image places

  pub atoms_count : length part.atoms ≡ length small.atoms
  atoms_count = ap length weak.atoms ∙ length-map small.atoms (shared_atom stays)

  pub differ : (p q : ℕ) → (1 ≤ p) × (p ≤ length small.atoms) → (1 ≤ q) × (q ≤ length small.atoms) → image places p ≡ image places q → p ≡ q
  differ p q is is' same = elim (cases_eq p q) [
    | inl same_already ↦ same_already
    | inr other ↦ elim (cases_lt p q) [
      | inl less ↦ absurd (let up = shared.rise p q is.0 less is'.1 in omega (arith, up, same))
      | inr more ↦ absurd (let up = shared.rise q p is'.0 (omega arith) is.1 in omega (arith, up, same))
    ]
  ]

  -- ---- a bond of the part, and the bond of the whole

  pub record IsBondShared (bond : GraphBond) : Type 0 where
    pub other : GraphBond
    pub held : Contains whole.bonds other
    pub first : other.first ≡ image places bond.first
    pub second : other.second ≡ image places bond.second
    pub kind : bond.kind ≡ shared_kind stays other.kind
    pub topology : bond.topology ≡ other.topology
    pub is_first : (1 ≤ bond.first) × (bond.first ≤ length small.atoms)
    pub is_second : (1 ≤ bond.second) × (bond.second ≤ length small.atoms)

  pub bond_shared : (bond : GraphBond) → Contains part.bonds bond → IsBondShared bond
  bond_shared bond held =
      let there = Contains-permutation (map unmarked part.bonds) (map (shared_bond stays) small.bonds) (unmarked bond)
      (IsPermutation-sym (map (shared_bond stays) small.bonds) (map unmarked part.bonds) weak.bonds)
      (in_mapped unmarked part.bonds bond held) in
      let from = of_mapped (shared_bond stays) small.bonds (unmarked bond) there in
      let ends = shared.ends from.0 from.1 in
      let out = of_mapped unmarked whole.bonds (moved places from.0) (drawn.all (moved places from.0) (shared.bonds from.0 from.1)) in
      let first : from.0.first ≡ bond.first = ap (λ (b : QueryBond). b.first) from.2 in
      let second : from.0.second ≡ bond.second = ap (λ (b : QueryBond). b.second) from.2 in
      let kind : shared_kind stays from.0.kind ≡ bond.kind = ap (λ (b : QueryBond). b.kind) from.2 in
      let topology : from.0.topology ≡ bond.topology = ap (λ (b : QueryBond). b.topology) from.2 in
      record {
        other = out.0;
        held = out.1;
        first = ap (λ (b : QueryBond). b.first) out.2 ∙ ap e first;
        second = ap (λ (b : QueryBond). b.second) out.2 ∙ ap e second;
        kind = sym kind ∙ ap (shared_kind stays) (sym (ap (λ (b : QueryBond). b.kind) out.2));
        topology = sym topology ∙ sym (ap (λ (b : QueryBond). b.topology) out.2);
        is_first = (omega (arith, first, ends.first.0), omega (arith, first, ends.first.1));
        is_second = (omega (arith, second, ends.second.0), omega (arith, second, ends.second.1));
      }

  -- ---- where all else of the whole hangs on the part by bridges

  module _ (is : stays ≡ true) (home root : ℕ → ℕ) (hung : IsHung small large places home root) where
    kind_kept : (k : ℕ) → shared_kind stays k ≡ k
    kind_kept k = ap (λ (t : Bool). shared_kind t k) is

    abbrev edges : List Edge
    edges = graph_edges part.bonds

    abbrev whole_edges : List Edge
    whole_edges = graph_edges whole.bonds

    simple : IsSimple (length small.atoms) (graph_edges part.bonds)
    simple = subst (λ (n : ℕ). IsSimple n (graph_edges part.bonds)) atoms_count weak.kept.sketch.graph

    simple' : IsSimple (length whole.atoms) (graph_edges whole.bonds)
    simple' = drawn.kept.sketch.graph

    -- the bond of the whole joins the places of its ends
    joins_there : (bond : GraphBond) (there : IsBondShared bond) (c p q : ℕ) → slice_get whole.bonds c ≡ Some there.other → HasEnds (graph_edge bond) p q
        → Joins (graph_edges whole.bonds) c (image places p) (image places q)
    joins_there bond there c p q at (inl s) =
        record { edge = graph_edge there.other; at = edge_at whole.bonds c there.other at; ends = inl (there.first ∙ ap (image places) s.0, there.second ∙ ap (image places) s.1) }
    joins_there bond there c p q at (inr s) =
        record { edge = graph_edge there.other; at = edge_at whole.bonds c there.other at; ends = inr (there.first ∙ ap (image places) s.0, there.second ∙ ap (image places) s.1) }

    turned : (c u v : ℕ) → LiesThere (graph_edges part.bonds) (graph_edges whole.bonds) (length small.atoms) places home root c u v
        → LiesThere (graph_edges part.bonds) (graph_edges whole.bonds) (length small.atoms) places home root c v u
    turned c u v (inl m) = inl (record { b = m.b; p = m.q; q = m.p; joined = joins_back (graph_edges part.bonds) m.b m.p m.q m.joined; first = m.second; second = m.first; kind = m.kind })
    turned c u v (inr (inl m)) = inr (inl (record { beyond = λ none. m.beyond (m.one_root ∙ none); one_root = sym m.one_root; one_home = sym m.one_home }))
    turned c u v (inr (inr (inl m))) = inr (inr (inr m))
    turned c u v (inr (inr (inr m))) = inr (inr (inl m))

    lies_there : (c : ℕ) (bond : GraphBond) → slice_get whole.bonds c ≡ Some bond → LiesSo small places home root (unmarked bond)
        → LiesThere (graph_edges part.bonds) (graph_edges whole.bonds) (length small.atoms) places home root c bond.first bond.second
    lies_there c bond at (inr lies) = inr lies
    lies_there c bond at (inl (b, held, same)) =
        let in_part = Contains-permutation (map (shared_bond stays) small.bonds) (map unmarked part.bonds) (shared_bond stays b) weak.bonds (in_mapped (shared_bond stays) small.bonds b held) in
        let from = of_mapped unmarked part.bonds (shared_bond stays b) in_part in
        let place = place_held part.bonds from.0 from.1 in
        let first : from.0.first ≡ b.first = ap (λ (d : QueryBond). d.first) from.2 in
        let second : from.0.second ≡ b.second = ap (λ (d : QueryBond). d.second) from.2 in
        let kind : from.0.kind ≡ bond.kind = ap (λ (d : QueryBond). d.kind) from.2 ∙ kind_kept b.kind ∙ ap (λ (d : QueryBond). d.kind) same in
        inl (record {
          b = place.0;
          p = from.0.first;
          q = from.0.second;
          joined = joins_of part.bonds place.0 from.0 place.1;
          first = ap e first ∙ ap (λ (d : QueryBond). d.first) same;
          second = ap e second ∙ ap (λ (d : QueryBond). d.second) same;
          kind = same_kinds part.bonds whole.bonds place.0 c from.0 bond place.1 at kind;
        })

    hangs_on : HangsOn (graph_edges part.bonds) (graph_edges whole.bonds) (length small.atoms) places
    hangs_on = record {
      home = home;
      root = root;
      own = hung.own;
      shared = λ b p q j.
          let found = bond_at part.bonds b j.edge j.at in
          let there = bond_shared found.bond (held_at part.bonds b found.bond found.at) in
          let place = place_held whole.bonds there.other there.held in
          let ends : HasEnds (graph_edge found.bond) p q = subst (λ (d : Edge). HasEnds d p q) (sym found.is) j.ends in (
            place.0,
            joins_there found.bond there place.0 p q place.1 ends,
            same_kinds part.bonds whole.bonds b place.0 found.bond there.other found.at place.1 (there.kind ∙ kind_kept there.other.kind),
          );
      bonds = λ c u v j.
          let found = bond_at whole.bonds c j.edge j.at in
          let lies = lies_there c found.bond found.at (hung.bonds (unmarked found.bond) (drawn.each found.bond (held_at whole.bonds c found.bond found.at))) in
          to_ends c u v found.bond (subst (λ (d : Edge). HasEnds d u v) (sym found.is) j.ends) lies;
    }
      where
        to_ends : (c u v : ℕ) (bond : GraphBond) → HasEnds (graph_edge bond) u v
            → LiesThere (graph_edges part.bonds) (graph_edges whole.bonds) (length small.atoms) places home root c bond.first bond.second
            → LiesThere (graph_edges part.bonds) (graph_edges whole.bonds) (length small.atoms) places home root c u v
        to_ends c u v bond (inl s) lies =
            subst (λ (n : ℕ). LiesThere (graph_edges part.bonds) (graph_edges whole.bonds) (length small.atoms) places home root c n v) s.0
            (subst (λ (n : ℕ). LiesThere (graph_edges part.bonds) (graph_edges whole.bonds) (length small.atoms) places home root c bond.first n) s.1 lies)
        to_ends c u v bond (inr s) lies =
            turned c v u (subst (λ (n : ℕ). LiesThere (graph_edges part.bonds) (graph_edges whole.bonds) (length small.atoms) places home root c n u) s.0
            (subst (λ (n : ℕ). LiesThere (graph_edges part.bonds) (graph_edges whole.bonds) (length small.atoms) places home root c bond.first n) s.1 lies))

    -- a bond of the part has the marks of the bond of the whole
    marks_at : (b c : ℕ) (bond other : GraphBond) (p q : ℕ) → slice_get part.bonds b ≡ Some bond → slice_get whole.bonds c ≡ Some other → Joins (graph_edges part.bonds) b p q
        → Joins (graph_edges whole.bonds) c (image places p) (image places q) → (bond.ring ≡ other.ring) × (bond.aromatic ≡ other.aromatic)
    marks_at b c bond other p q at at' j k =
        let mine : HasGraphMarks (graph_edges part.bonds) b bond = weak.kept.marks b bond at in
        let its : HasGraphMarks (graph_edges whole.bonds) c other = drawn.kept.marks c other at' in
        let ring = rings_stay (graph_edges part.bonds) (graph_edges whole.bonds) (length small.atoms) (length whole.atoms) places simple simple' hangs_on b c p q j k in
        let aromatic = aromatic_stays (graph_edges part.bonds) (graph_edges whole.bonds) (length small.atoms) (length whole.atoms) places simple simple' hangs_on b c p q j k in (
          same_bool bond.ring other.ring (λ t. its.ring.1 (ring.0 (mine.ring.0 t))) (λ t. mine.ring.1 (ring.1 (its.ring.0 t))),
          same_bool bond.aromatic other.aromatic (λ t. its.aromatic.1 (aromatic.0 (mine.aromatic.0 t))) (λ t. mine.aromatic.1 (aromatic.1 (its.aromatic.0 t))),
        )

    pub marks_same : (bond : GraphBond) → Contains part.bonds bond → (there : IsBondShared bond) → (bond.ring ≡ there.other.ring) × (bond.aromatic ≡ there.other.aromatic)
    marks_same bond held there =
        let place = place_held part.bonds bond held in
        let place' = place_held whole.bonds there.other there.held in
        marks_at place.0 place'.0 bond there.other bond.first bond.second place.1 place'.1 (joins_of part.bonds place.0 bond place.1)
        (joins_there bond there place'.0 bond.first bond.second place'.1 (inl (refl, refl)))

    -- ---- ring bonds of an atom

    part_differ : AllPairs (λ a b. with_ends (image places a.first) (image places a.second) ≢ with_ends (image places b.first) (image places b.second)) part.bonds
    part_differ i j d less below same =
        let one = bond_shared (get_or part.bonds i d) (Contains-get_or part.bonds i d (omega (arith, less, below))) in
        let two = bond_shared (get_or part.bonds j d) (Contains-get_or part.bonds j d below) in
        let first = differ (get_or part.bonds i d).first (get_or part.bonds j d).first one.is_first two.is_first (ap (λ (a : Ends). a.first) same) in
        let second = differ (get_or part.bonds i d).second (get_or part.bonds j d).second one.is_second two.is_second (ap (λ (a : Ends). a.second) same) in
        let order : IsBefore (get_or part.bonds i d) (get_or part.bonds j d) = weak.kept.sketch.order i j d less below in
        elim order [
          | inl up ↦ omega (arith, first, up)
          | inr up ↦ omega (arith, second, up.1)
        ]

    whole_differ : AllPairs (λ a b. ends_of a ≢ ends_of b) whole.bonds
    whole_differ i j d less below same =
        let first : (get_or whole.bonds i d).first ≡ (get_or whole.bonds j d).first = ap (λ (a : Ends). a.first) same in
        let second : (get_or whole.bonds i d).second ≡ (get_or whole.bonds j d).second = ap (λ (a : Ends). a.second) same in
        let order : IsBefore (get_or whole.bonds i d) (get_or whole.bonds j d) = drawn.kept.sketch.order i j d less below in
        elim order [
          | inl up ↦ omega (arith, first, up)
          | inr up ↦ omega (arith, second, up.1)
        ]

    module _ (x : ℕ) (is_x : (1 ≤ x) × (x ≤ length small.atoms)) where
      touching : (n : ℕ) (edge : Edge) → (edge.first ≡ n) ⊎ (edge.second ≡ n) → touches n edge ≡ true
      touching n edge (inl first) = (let a : eqb edge.first n ≡ true = grind (arith, nat_tests) in rw a refl)
      touching n edge (inr second) = (let a : eqb edge.second n ≡ true = grind (arith, nat_tests) in rw a (last (eqb edge.first n)))
        where
          last : (t : Bool) → (t || true) ≡ true
          last true = refl
          last false = refl

      touched : (n : ℕ) (edge : Edge) → touches n edge ≡ true → (edge.first ≡ n) ⊎ (edge.second ≡ n)
      touched n edge is' = by (eqb edge.first n) (eqb edge.second n) refl refl is'
        where
          by : (a b : Bool) → eqb edge.first n ≡ a → eqb edge.second n ≡ b → (a || b) ≡ true → (edge.first ≡ n) ⊎ (edge.second ≡ n)
          by true b f g t = inl (grind (arith, nat_tests))
          by false true f g t = inr (grind (arith, nat_tests))
          by false false f g t = absurd cc

      both_true : (a b : Bool) → a ≡ true → b ≡ true → (a && b) ≡ true
      both_true a b f g = rw (f, g) refl

      -- a ring bond of the part at x
      upward : (bond : GraphBond) → Contains part.bonds bond → (touches x (graph_edge bond) && bond.ring) ≡ true
          → (other : GraphBond) × Contains whole.bonds other × ((touches (image places x) (graph_edge other) && other.ring) ≡ true)
          × (ends_of other ≡ with_ends (image places bond.first) (image places bond.second))
      upward bond held passes =
          let parts = both_parts (touches x (graph_edge bond)) bond.ring passes in
          let there = bond_shared bond held in
          let marks = marks_same bond held there in (
            there.other,
            there.held,
            both_true (touches (image places x) (graph_edge there.other)) there.other.ring (touching (image places x) (graph_edge there.other) (at there (touched x (graph_edge bond) parts.0)))
                (sym marks.0 ∙ parts.1),
            ap (λ (n : ℕ). with_ends n there.other.second) there.first ∙ ap (with_ends (image places bond.first)) there.second,
          )
        where
          at : (there : IsBondShared bond) → (bond.first ≡ x) ⊎ (bond.second ≡ x) → (there.other.first ≡ image places x) ⊎ (there.other.second ≡ image places x)
          at there (inl first) = inl (there.first ∙ ap (image places) first)
          at there (inr second) = inr (there.second ∙ ap (image places) second)

      -- a bond of the part at x, where the bond of the whole is a ring bond
      at_bond : (c : ℕ) (other : GraphBond) → slice_get whole.bonds c ≡ Some other → other.ring ≡ true → (b q : ℕ) → Joins (graph_edges part.bonds) b x q
          → Joins (graph_edges whole.bonds) c (image places x) (image places q) → (bond : GraphBond) → slice_get part.bonds b ≡ Some bond → HasEnds (graph_edge bond) x q
          → (there : IsBondShared bond) (d : ℕ) → slice_get whole.bonds d ≡ Some there.other
          → ((touches x (graph_edge bond) && bond.ring) ≡ true) × (with_ends (image places bond.first) (image places bond.second) ≡ ends_of other)
      at_bond c other at ring b q j k bond at' ends there d at'' =
          let marks = marks_at b c bond other x q at' at j k in
          let one : d ≡ c = simple'.once d c (image places x) (image places q) (joins_there bond there d x q at'' ends) k in
          let same : there.other ≡ other = one_bond whole.bonds d c there.other other at'' at one in (
            both_true (touches x (graph_edge bond)) bond.ring (touching x (graph_edge bond) (end ends)) (marks.0 ∙ ring),
            sym (ap (λ (n : ℕ). with_ends n there.other.second) there.first ∙ ap (with_ends (image places bond.first)) there.second) ∙ ap ends_of same,
          )
        where
          end : HasEnds (graph_edge bond) x q → (bond.first ≡ x) ⊎ (bond.second ≡ x)
          end (inl s) = inl s.0
          end (inr s) = inr s.1

      -- a ring bond of the whole at its place
      downward : (other : GraphBond) → Contains whole.bonds other → (touches (image places x) (graph_edge other) && other.ring) ≡ true
          → (bond : GraphBond) × Contains part.bonds bond × ((touches x (graph_edge bond) && bond.ring) ≡ true)
          × (with_ends (image places bond.first) (image places bond.second) ≡ ends_of other)
      downward other held passes = by (touched (image places x) (graph_edge other) parts.0)
        where
          parts : (touches (image places x) (graph_edge other) ≡ true) × (other.ring ≡ true)
          parts = both_parts (touches (image places x) (graph_edge other)) other.ring passes

          place : (k : ℕ) × (slice_get whole.bonds k ≡ Some other)
          place = place_held whole.bonds other held

          from : (v : ℕ) → Joins (graph_edges whole.bonds) place.0 (image places x) v → (bond : GraphBond) × Contains part.bonds bond × ((touches x (graph_edge bond) && bond.ring) ≡ true)
              × (with_ends (image places bond.first) (image places bond.second) ≡ ends_of other)
          from v k =
              let ring = (drawn.kept.marks place.0 other place.1).ring.0 parts.1 in
              let home_bond = none_leads_away (graph_edges part.bonds) (graph_edges whole.bonds) (length small.atoms) (length whole.atoms) places
              simple simple' hangs_on place.0 x v is_x.0 is_x.1 k ring in
              let k' : Joins (graph_edges whole.bonds) place.0 (image places x) (image places home_bond.1) = subst (Joins (graph_edges whole.bonds) place.0 (image places x)) (sym home_bond.3) k in
              let found = bond_at part.bonds home_bond.0 home_bond.2.edge home_bond.2.at in
              let held' = held_at part.bonds home_bond.0 found.bond found.at in
              let ends : HasEnds (graph_edge found.bond) x home_bond.1 = subst (λ (d : Edge). HasEnds d x home_bond.1) (sym found.is) home_bond.2.ends in
              let there = bond_shared found.bond held' in
              let place' = place_held whole.bonds there.other there.held in
              let both = at_bond place.0 other place.1 parts.1 home_bond.0 home_bond.1 home_bond.2 k' found.bond found.at ends there place'.0 place'.1 in
              (found.bond, held', both.0, both.1)

          by : (other.first ≡ image places x) ⊎ (other.second ≡ image places x) → (bond : GraphBond) × Contains part.bonds bond × ((touches x (graph_edge bond) && bond.ring) ≡ true)
              × (with_ends (image places bond.first) (image places bond.second) ≡ ends_of other)
          by (inl first) = from other.second (record { edge = graph_edge other; at = edge_at whole.bonds place.0 other place.1; ends = inl (first, refl) })
          by (inr second) = from other.first (record { edge = graph_edge other; at = edge_at whole.bonds place.0 other place.1; ends = inr (refl, second) })

      -- an atom of the part has as many ring bonds there as in the whole
      pub rings_same : drawn_rings part x ≡ drawn_rings whole (image places x)
      rings_same =
          let up = count_injected (λ bond. touches x (graph_edge bond) && bond.ring) (λ other. touches (image places x) (graph_edge other) && other.ring)
          (λ bond. with_ends (image places bond.first) (image places bond.second)) ends_of part.bonds whole.bonds part_differ upward in
          let down = count_injected (λ other. touches (image places x) (graph_edge other) && other.ring) (λ bond. touches x (graph_edge bond) && bond.ring)
          ends_of (λ bond. with_ends (image places bond.first) (image places bond.second)) whole.bonds part.bonds whole_differ downward in
          omega (arith, up, down)
