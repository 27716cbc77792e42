-- The bonds of a table.
--     bonds_right     each is a new bond of a known type, and none is an atom's 21st
--     bonds_as        as a query has them, they are those of the graph
use Rattle.std.proofs.Common.{◌≡◌, ◌<◌, ◌≤◌, ◌-◌, ℕ, zero, suc, cond, List, [], ◌∷◌, Some, length, map, get_or, take, refl, sym, ap, ◌∙◌, subst, arith, All, inl, inr, ◌⊎◌}
use Rattle.std.specs.Prelude.{pos, slice_get}
use Rattle.std.specs.List.{take-map}
use Rattle.std.proofs.lemmas.Bool.{le-leb}
use Rattle.std.proofs.lemmas.Int.{ints}
use Rattle.std.proofs.lemmas.List.{get_or-map, get_or-take, length-map, length-take}
use Rattle.std.proofs.lemmas.List.Sums.{sum_by-take-le}
use Rattle.mk_model.specs.declared.edge.Edge.{Edge}
use Rattle.mk_model.specs.declared.graph.GraphBond.{GraphBond}
use Rattle.mk_model.specs.declared.template.QueryBond.{QueryBond}
use Rattle.mk_model.specs.Edges.{IsBetween, Joins, degree, touches}
use Rattle.mk_model.specs.Expansions.{unmarked}
use Rattle.mk_model.specs.Graphs.{GraphView, IsGraph, graph_edge, graph_edges}
use Rattle.mk_model.specs.Tests.{IsBondInRange}
use Rattle.mk_model.proofs.ForCallers.{all_at, at_place, drawn_between, place_within}
use Rattle.mk_tables.specs.declared.raw.RawBond.{RawBond}
use Rattle.mk_demands.specs.Bonds.{HasFewBonds, HasTwoEnds, IsNewBond, JoinSame, edges_of, raw_edge}
use Rattle.mk_demands.specs.Numbers.{byte}
use Rattle.mk_query.specs.Checks.{HasQueryType, IsQueryBond}
use Rattle.mk_query.specs.Drawn.{query_bond, query_bonds}
use Rattle.mk_enum.specs.StructureTables.{bond_drawn}
use Rattle.mk_enum.specs.Writable.{IsWritable}

-- a mapped item at a place
pub mapped_get : {X Y : Type 0} (f : X → Y) (xs : List X) (i : ℕ) (y : Y) → slice_get (map f xs) i ≡ Some y → (x : X) × (slice_get xs i ≡ Some x) × (f x ≡ y)
mapped_get f [] i y at = absurd cc
mapped_get f (x ∷ xs) zero y at = (x, refl, cc)
mapped_get f (x ∷ xs) (suc i) y at = mapped_get f xs i y at

-- ---- as edges

byte_is : (k : ℕ) → k ≤ 255 → byte (pos k) ≡ k
byte_is k small = rw (le-leb k 255 small) refl

abbrev edge_made : ℕ → ℕ → ℕ → Edge
edge_made first second kind = record { first = first; second = second; kind = kind }

edges_as : (bonds : List GraphBond) → All (λ bond. IsBondInRange bond.kind bond.topology) bonds → edges_of (map bond_drawn bonds) ≡ graph_edges bonds
edges_as [] tests = refl
edges_as (bond ∷ bonds) tests =
    let here = tests 0 bond (omega arith) in
    let one : raw_edge (bond_drawn bond) ≡ graph_edge bond = ap (edge_made bond.first bond.second) (byte_is bond.kind (omega (arith, here.kind.1))) in
    ap (λ (e : Edge). e ∷ edges_of (map bond_drawn bonds)) one
    ∙ ap (λ (es : List Edge). graph_edge bond ∷ es) (edges_as bonds (λ k d below. tests (suc k) d (omega (arith, below))))

abbrev bond_made : ℕ → ℕ → ℕ → ℕ → QueryBond
bond_made first second kind topology = record { first = first; second = second; kind = kind; topology = topology }

-- the bonds as a query has them
pub bonds_as : (bonds : List GraphBond) → All (λ bond. IsBondInRange bond.kind bond.topology) bonds → query_bonds (map bond_drawn bonds) ≡ map unmarked bonds
bonds_as [] tests = refl
bonds_as (bond ∷ bonds) tests =
    let here = tests 0 bond (omega arith) in
    let one : query_bond (bond_drawn bond) ≡ unmarked bond =
    ap (λ (k : ℕ). bond_made bond.first bond.second k (byte (pos bond.topology))) (byte_is bond.kind (omega (arith, here.kind.1)))
    ∙ ap (bond_made bond.first bond.second bond.kind) (byte_is bond.topology (omega (arith, here.topology))) in
    ap (λ (b : QueryBond). b ∷ query_bonds (map bond_drawn bonds)) one
    ∙ ap (λ (bs : List QueryBond). unmarked bond ∷ bs) (bonds_as bonds (λ k d below. tests (suc k) d (omega (arith, below))))

-- ---- each bond

pos_same : (a b : ℕ) → pos a ≡ pos b → a ≡ b
pos_same a b e = cc

module _ (graph : GraphView) (is : IsGraph graph) where
  two_ends : (b : ℕ) (bond : GraphBond) → slice_get graph.bonds b ≡ Some bond → HasTwoEnds (length graph.atoms) (bond_drawn bond)
  two_ends b bond at =
      let between = all_at (λ (g : GraphBond). IsBetween (length graph.atoms) (graph_edge g)) graph.bonds b bond (drawn_between graph is) at in
      let less = all_at (λ (g : GraphBond). g.first < g.second) graph.bonds b bond is.sketch.lower_first at in
      record {
        first = record { least = omega (arith, ints, between.first.0); most = omega (arith, ints, between.first.1) };
        second = record { least = omega (arith, ints, between.second.0); most = omega (arith, ints, between.second.1) };
        differ = λ same. (let e = pos_same bond.first bond.second same in omega (arith, e, less));
      }

  -- a bond joins its ends
  joins_own : (b : ℕ) (bond : GraphBond) → slice_get graph.bonds b ≡ Some bond → Joins (graph_edges graph.bonds) b bond.first bond.second
  joins_own b bond at =
      let within = place_within graph.bonds b bond at in
      record { edge = graph_edge bond; at = mapped_at graph.bonds b bond at; ends = inl (refl, refl) }
    where
      mapped_at : (bonds : List GraphBond) (k : ℕ) (one : GraphBond) → slice_get bonds k ≡ Some one → slice_get (graph_edges bonds) k ≡ Some (graph_edge one)
      mapped_at [] k one at' = absurd cc
      mapped_at (first ∷ bonds) zero one at' = (let same : first ≡ one = cc in ap (λ (g : GraphBond). Some (graph_edge g)) same)
      mapped_at (first ∷ bonds) (suc k) one at' = mapped_at bonds k one at'

  joins_as : (b x y : ℕ) (bond : GraphBond) → slice_get graph.bonds b ≡ Some bond → ((bond.first ≡ x) × (bond.second ≡ y)) → Joins (graph_edges graph.bonds) b x y
  unfolding joins_own
  joins_as b x y bond at ends = (let j = joins_own b bond at in record { edge = j.edge; at = j.at; ends = same_ends })
    where
      same_ends : ((graph_edge bond).first ≡ x) × ((graph_edge bond).second ≡ y) ⊎ ((graph_edge bond).first ≡ y) × ((graph_edge bond).second ≡ x)
      same_ends = inl ends

  -- two bonds with the same ends, whichever way, stand at one place
  apart : (b c : ℕ) (bond other : GraphBond) → slice_get graph.bonds b ≡ Some bond → slice_get graph.bonds c ≡ Some other → JoinSame (bond_drawn other) (bond_drawn bond) → b ≡ c
  apart b c bond other at there (inl same) =
      is.sketch.graph.once b c bond.first bond.second (joins_own b bond at)
      (joins_as c bond.first bond.second other there (pos_same other.first bond.first same.0, pos_same other.second bond.second same.1))
  apart b c bond other at there (inr turned) =
      let one = all_at (λ (g : GraphBond). g.first < g.second) graph.bonds b bond is.sketch.lower_first at in
      let two = all_at (λ (g : GraphBond). g.first < g.second) graph.bonds c other is.sketch.lower_first there in
      absurd (omega (arith, one, two, pos_same other.first bond.second turned.0, pos_same other.second bond.first turned.1))

  new_bond : (b : ℕ) (bond : GraphBond) → slice_get graph.bonds b ≡ Some bond → IsNewBond (length graph.atoms) (take b (map bond_drawn graph.bonds)) (bond_drawn bond)
  new_bond b bond at = record {
    ends = two_ends b bond at;
    new = λ k d below same.
        let within : b < length graph.bonds = place_within graph.bonds b bond at in
        let size : length (take b (map bond_drawn graph.bonds)) ≤ b = omega (arith, length-take b (map bond_drawn graph.bonds)) in
        let under : k < b = omega (arith, below, size) in
        let there : get_or (take b (map bond_drawn graph.bonds)) k d ≡ bond_drawn (get_or graph.bonds k bond) =
        get_or-take b (map bond_drawn graph.bonds) k d under ∙ default_free (map bond_drawn graph.bonds) k d (bond_drawn bond) (omega (arith, under, within, length-map graph.bonds bond_drawn))
        ∙ get_or-map bond_drawn graph.bonds k bond (bond_drawn bond) (omega (arith, under, within)) in
        let place : b ≡ k = apart b k bond (get_or graph.bonds k bond) at (at_place graph.bonds k bond (omega (arith, under, within)))
        (subst (λ (r : RawBond). JoinSame r (bond_drawn bond)) there same) in
        omega (arith, place, under);
  }
    where
      default_free : (xs : List RawBond) (k : ℕ) (d e : RawBond) → k < length xs → get_or xs k d ≡ get_or xs k e
      default_free [] k d e below = absurd (omega (arith, below))
      default_free (x ∷ xs) zero d e below = refl
      default_free (x ∷ xs) (suc k) d e below = default_free xs k d e (omega (arith, below))

  query_type : (b : ℕ) (bond : GraphBond) → slice_get graph.bonds b ≡ Some bond → HasQueryType (bond_drawn bond)
  query_type b bond at =
      let tests = all_at (λ (g : GraphBond). IsBondInRange g.kind g.topology) graph.bonds b bond is.sketch.bond_tests at in
      record {
        kind = record { least = omega (arith, ints, tests.kind.0); most = omega (arith, ints, tests.kind.1) };
        topology = record { least = omega (arith, ints); most = omega (arith, ints, tests.topology) };
      }

  few_to : IsWritable graph → (item n : ℕ) → HasFewBonds (length graph.atoms) (edges_of (take item (map bond_drawn graph.bonds))) n
  few_to writable item n least most =
      let cut : edges_of (take item (map bond_drawn graph.bonds)) ≡ take item (graph_edges graph.bonds) =
      sym (take-map raw_edge item (map bond_drawn graph.bonds)) ∙ ap (take item) (edges_as graph.bonds is.sketch.bond_tests) in
      let less = sum_by-take-le (λ (e : Edge). cond (touches n e) 1 0) (graph_edges graph.bonds) item in
      subst (λ (es : List Edge). degree es n ≤ 20) (sym cut) (omega (arith, less, writable.few_each n least most))

  -- each bond is right
  pub bonds_right : IsWritable graph → (item : ℕ) → IsQueryBond (length graph.atoms) (map bond_drawn graph.bonds) item
  bonds_right writable item = record {
    new = λ line least at. (
        let m = mapped_get bond_drawn graph.bonds (item - 1) line at in
        subst (IsNewBond (length graph.atoms) (take (item - 1) (map bond_drawn graph.bonds))) m.2 (new_bond (item - 1) m.0 m.1)
        );
    columns = λ line least at. (let m = mapped_get bond_drawn graph.bonds (item - 1) line at in subst HasQueryType m.2 (query_type (item - 1) m.0 m.1));
    few = few_to writable item;
  }
