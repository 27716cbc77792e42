-- Every simple list of edges has marks by the definitions, and one list alone.
--     decided_ring              a bond is a ring bond, or it isn't: what is reached from one end without it is marked
--     aromatics_of              marks of the aromatic set: bonds are marked by the rule, until it adds none
--     edges_have_marks          EdgesHaveMarks
--     one_list_of_marks         OneListOfMarks
--     mol_bonds_have_marks      MolBondsHaveMarks
--     graph_bonds_have_marks    GraphBondsHaveMarks
use Rattle.std.proofs.Common.{◌≡◌, ◌≢◌, ◌≤◌, ◌<◌, ◌+◌, ℕ, zero, suc, Bool, true, false, List, [], ◌∷◌, Some, refl, ap, sym, ◌∙◌, subst, inl, inr, arith, length, get_or}
use Rattle.std.specs.Prelude.{◌⊎◌, ◌↔◌, IsTrue, slice_get}
use Rattle.std.proofs.lemmas.Bool.{cases_eq, cases_lt, true≢false}
use Rattle.std.proofs.lemmas.List.{get_or_default, length-map, same_lists}
use Rattle.mk_model.specs.declared.edge.Edge.{Edge}
use Rattle.mk_model.specs.declared.molecule.MolBond.{MolBond}
use Rattle.mk_model.specs.declared.graph.GraphBond.{GraphBond}
use Rattle.mk_model.specs.Edges.{AreBetween, HasKind, Joins}
use Rattle.mk_model.specs.Graphs.{HasGraphMarks, graph_edge, graph_edges}
use Rattle.mk_model.specs.Molecules.{HasMarks, edge_of, edges}
use Rattle.mk_model.specs.Rings.{IsRingBond, IsWay, Step}
use Rattle.mk_model.specs.Aromatic.{IsAromatic}
use Rattle.mk_model.proofs.ForCallers.{place_within}
use Rattle.mk_marks.specs.Bare.{bare_bond, bare_bonds}
use Rattle.mk_marks.specs.Laws.{EdgesHaveMarks, GraphBondsHaveMarks, MolBondsHaveMarks, OneListOfMarks}
use Rattle.mk_marks.specs.Marks.{IsMarked, Marks}
use Rattle.mk_marks.specs.SixRings.{ClosesRing, set_of, unmarked}
use Rattle.mk_marks.proofs.BareLemmas.{same_edges, same_length}
use Rattle.mk_marks.proofs.DecisionLemmas.{Closure, Decided, closed_from, decided_as, decided_both, decided_closes, decided_either, decided_joins, decided_kind, decided_some, end_within, marks_by}
use Rattle.mk_marks.proofs.LawLemmas.{same_test}
use Rattle.mk_marks.proofs.ClosedLemmas.{Marks-done, closed_ring, kind_within}
use Rattle.mk_marks.proofs.JoinLemmas.{get_or-from_get, joins_ends, joins_within}
use Rattle.mk_marks.proofs.WayLemmas.{IsRingBond-linked, Linked, joins_back, linked_by, linked_here, linked_on}

-- ---- no marks

-- marks of which none is set
no_marks : ℕ → List Bool
no_marks zero = []
no_marks (suc n) = false ∷ no_marks n

length_no_marks : (n : ℕ) → length (no_marks n) ≡ n
unfolding no_marks
length_no_marks zero = refl
length_no_marks (suc n) = ap suc (length_no_marks n)

none_marked : (n b : ℕ) → IsMarked (no_marks n) b → ⊥
unfolding no_marks
none_marked zero b marked = true≢false (sym marked)
none_marked (suc n) zero marked = true≢false (sym marked)
none_marked (suc n) (suc b) marked = none_marked n b marked

-- ---- ring bonds

module _ (atoms : ℕ) (bonds : List Edge) (ends : AreBetween atoms bonds) where
  module _ (c x : ℕ) where
    -- by some bond but c, from an atom that is marked, to atom z
    abbrev Reaches : List Bool → ℕ → Type 0
    Reaches marks z = (u : ℕ) × ((b : ℕ) × (Joins bonds b u z × ((b ≢ c) × IsMarked marks u)))

    -- atom z is the one to start from, or is reached
    abbrev Adds : List Bool → ℕ → Type 0
    Adds marks z = (z ≡ x) ⊎ Reaches marks z

    other_bond : (b : ℕ) → Decided (b ≢ c)
    other_bond b = elim (cases_eq b c) [ inl same ↦ inr (λ other. other same) | inr other ↦ inl other ]

    decided_marked : (marks : List Bool) (u : ℕ) → Decided (IsMarked marks u)
    decided_marked marks u = by_mark (get_or marks u false)
      where
        by_mark : (mark : Bool) → Decided (mark ≡ true)
        by_mark true = inl refl
        by_mark false = inr (λ same. true≢false (sym same))

    decided_adds : (marks : List Bool) (z : ℕ) → Decided (Adds marks z)
    decided_adds marks z =
        decided_either (cases_eq z x)
        (decided_some (λ u. (b : ℕ) × (Joins bonds b u z × ((b ≢ c) × IsMarked marks u)))
        (λ u. decided_some (λ b. Joins bonds b u z × ((b ≢ c) × IsMarked marks u))
        (λ b. decided_both (decided_joins bonds b u z) (decided_both (other_bond b) (decided_marked marks u)))
        (length bonds) (λ b there. joins_within bonds b u z there.0))
        (atoms + 1) (λ u there. end_within atoms bonds there.0 z u ends (joins_back there.1.0)))

    sound : (marks : List Bool) → ((u : ℕ) → IsMarked marks u → Linked bonds c x u) → (z : ℕ) → Adds marks z → Linked bonds c x z
    sound marks known z (inl here) = subst (Linked bonds c x) (sym here) (linked_here bonds c x)
    sound marks known z (inr there) = linked_on (known there.0 there.1.1.1.1) (linked_by c there.1.1.0 there.1.1.1.0)

    reached : (marks : List Bool) × Closure (atoms + 1) (Linked bonds c x) Adds marks
    reached =
        closed_from (atoms + 1) (Linked bonds c x) Adds decided_adds sound (unmarked (no_marks (atoms + 1)))
        (no_marks (atoms + 1)) (length_no_marks (atoms + 1)) (omega arith)
        (λ u marked. absurd (none_marked (atoms + 1) u marked))

    -- a way from a marked atom leads to a marked atom
    way_marked : (marks : List Bool) → Closure (atoms + 1) (Linked bonds c x) Adds marks → (u z : ℕ) (way : List Step) → IsMarked marks u → IsWay bonds c u way z → IsMarked marks z
    way_marked marks closure u z [] marked way = subst (IsMarked marks) way marked
    way_marked marks closure u z (step ∷ way) marked leads =
        way_marked marks closure step.to z way (closure.closed step.to (end_within atoms bonds step.bond u step.to ends leads.0) (inr (u, (step.bond, (leads.0, (leads.1, marked)))))) leads.2

    -- whether an atom is reached is decided
    decided_linked : (z : ℕ) → x < atoms + 1 → Decided (Linked bonds c x z)
    decided_linked z within =
        let all = reached in
        let here : IsMarked all.0 x = all.1.closed x within (inl refl) in
        elim (decided_marked all.0 z) [
          | inl marked ↦ inl (all.1.true_facts z marked)
          | inr never ↦ inr (λ linked. never (way_marked all.0 all.1 x z linked.way here linked.leads))
        ]

  -- a bond is a ring bond, or it isn't
  pub decided_ring : (b : ℕ) → Decided (IsRingBond bonds b)
  decided_ring b = by_place (cases_lt b (length bonds))
    where
      no_edge : Edge
      no_edge = record { first = 0; second = 0; kind = 0 }

      by_place : (b < length bonds) ⊎ (length bonds ≤ b) → Decided (IsRingBond bonds b)
      by_place (inr past) = inr (λ ring. (let joined = joins_within bonds b ring.edge.first ring.edge.second (record { edge = ring.edge; at = ring.at; ends = inl (refl, refl) }) in omega arith))
      by_place (inl below) =
          let edge = get_or bonds b no_edge in
          let joined : Joins bonds b edge.first edge.second = joins_ends bonds b no_edge below in
          let within : edge.first < atoms + 1 = end_within atoms bonds b edge.second edge.first ends (joins_back joined) in
          decided_as (λ linked. IsRingBond-linked joined linked)
          (λ ring. (let same : ring.edge ≡ edge = sym (get_or-from_get bonds b no_edge ring.edge ring.at)
          in subst (λ (e : Edge). Linked bonds b e.first e.second) same
          (record { way = ring.way; leads = ring.around })))
          (decided_linked b edge.first edge.second within)

  rings_of : (rings : List Bool) × Marks (IsRingBond bonds) bonds rings
  rings_of =
      let marks = marks_by (length bonds) (IsRingBond bonds) decided_ring in
      (marks.0, record { size = marks.1.size; each = marks.1.each })

  -- ---- the aromatic set

  -- the bond has type 4, or closes a six-ring with the bonds that are marked
  abbrev AddsRing : List Bool → ℕ → Type 0
  AddsRing marks b = HasKind bonds b 4 ⊎ ClosesRing bonds (set_of marks) b

  sound_ring : (marks : List Bool) → ((b : ℕ) → IsMarked marks b → IsAromatic bonds b) → (b : ℕ) → AddsRing marks b → IsAromatic bonds b
  sound_ring marks known b (inl four) set' closed = closed.type_four b four
  sound_ring marks known b (inr closes) set' closed = closed_ring atoms bonds marks set' b ends closed (λ k marked. known k marked set' closed) closes

  pub aromatics_of : (aromatics : List Bool) × Marks (IsAromatic bonds) bonds aromatics
  aromatics_of =
      let none = no_marks (length bonds) in
      let all = closed_from (length bonds) (IsAromatic bonds) AddsRing
      (λ marks b. decided_either (decided_kind bonds b 4) (decided_closes atoms bonds ends (set_of marks) b))
      sound_ring (unmarked none) none (length_no_marks (length bonds)) (omega arith)
      (λ b marked. absurd (none_marked (length bonds) b marked)) in (
        all.0,
        Marks-done bonds all.0 all.1.size (λ b four. all.1.closed b (kind_within bonds b 4 four) (inl four))
            (λ s closed b marked. all.1.true_facts b marked s closed) (λ b below. done all.0 all.1 b below),
      )
    where
      done : (marks : List Bool) → Closure (length bonds) (IsAromatic bonds) AddsRing marks → (b : ℕ) → b < length bonds → IsMarked marks b ⊎ (ClosesRing bonds (set_of marks) b → ⊥)
      done marks closure b below =
          elim (decided_closes atoms bonds ends (set_of marks) b) [
            | inl closes ↦ inl (closure.closed b below (inr closes))
            | inr never ↦ inr never
          ]

-- ---- edges

pub edges_have_marks : EdgesHaveMarks
edges_have_marks atoms bonds simple =
    let rings = rings_of atoms bonds simple.ends in
    let aromatics = aromatics_of atoms bonds simple.ends in
    (rings.0, aromatics.0, record { ring = rings.1; aromatic = aromatics.1 })

-- marks for one reason are one list
same_marks : (P : ℕ → Type 0) (bonds : List Edge) (marks others : List Bool) → Marks P bonds marks → Marks P bonds others → marks ≡ others
same_marks P bonds marks others is its =
    same_lists marks others (is.size ∙ sym its.size)
    (λ k d below.
    let within : k < length bonds = omega (arith, is.size) in
    get_or_default marks k d false below ∙ same_test (get_or marks k false) (get_or others k false) (P k)
    (is.each k within) (its.each k within) ∙ sym (get_or_default others k d false (omega (arith, its.size))))

pub one_list_of_marks : OneListOfMarks
one_list_of_marks bonds rings aromatics rings' aromatics' is its =
    (same_marks (IsRingBond bonds) bonds rings rings' is.ring its.ring, same_marks (IsAromatic bonds) bonds aromatics aromatics' is.aromatic its.aromatic)

-- ---- bonds that keep their marks

-- the edges as bonds of a molecule, with their marks at the places from k on
mol_bonds : List Bool → List Bool → ℕ → List Edge → List MolBond
mol_bonds rings aromatics k [] = []
mol_bonds rings aromatics k (edge ∷ edges') =
    record { first = edge.first; second = edge.second; kind = edge.kind; ring = get_or rings k false; aromatic = get_or aromatics k false } ∷ mol_bonds rings aromatics (k + 1) edges'

mol_edges : (rings aromatics : List Bool) (k : ℕ) (plain : List Edge) → edges (mol_bonds rings aromatics k plain) ≡ plain
unfolding mol_bonds
mol_edges rings aromatics k [] = refl
mol_edges rings aromatics k (edge ∷ plain) = ap (λ (es : List Edge). edge ∷ es) (mol_edges rings aromatics (k + 1) plain)

-- the bond at place b has the marks at place k + b
record HasMolMarks (rings aromatics : List Bool) (k : ℕ) (bond : MolBond) : Type 0 where
  ring : bond.ring ≡ get_or rings k false
  aromatic : bond.aromatic ≡ get_or aromatics k false

mol_marks : (rings aromatics : List Bool) (k : ℕ) (plain : List Edge) (b : ℕ) (bond : MolBond) → slice_get (mol_bonds rings aromatics k plain) b ≡ Some bond → HasMolMarks rings aromatics (k + b) bond
unfolding mol_bonds
mol_marks rings aromatics k [] b bond at = absurd cc
mol_marks rings aromatics k (edge ∷ plain) zero bond at =
    (let e : k + 0 ≡ k = omega arith in rw e (record { ring = ap (λ (x : MolBond). x.ring) (sym (some_is at)); aromatic = ap (λ (x : MolBond). x.aromatic) (sym (some_is at)) }))
  where
    some_is : {x y : MolBond} → Some x ≡ Some y → x ≡ y
    some_is same = cc
mol_marks rings aromatics k (edge ∷ plain) (suc b) bond at =
    (let e : k + suc b ≡ k + 1 + b = omega arith in rw e (mol_marks rings aromatics (k + 1) plain b bond at))

-- a mark of the definition
same_reason : (mark other : Bool) (P : Type 0) → mark ≡ other → IsTrue other ↔ P → IsTrue mark ↔ P
same_reason mark other P is exact = (λ set'. exact.0 (sym is ∙ set'), λ holds. is ∙ exact.1 holds)

pub mol_bonds_have_marks : MolBondsHaveMarks
mol_bonds_have_marks atoms plain simple =
    let marks = edges_have_marks atoms plain simple in
    let bonds = mol_bonds marks.0 marks.1 0 plain in
    let same : edges bonds ≡ plain = mol_edges marks.0 marks.1 0 plain in (
      bonds,
      same,
      λ b bond at.
          let has : HasMolMarks marks.0 marks.1 b bond = (let e : 0 + b ≡ b = omega arith in rw e at (mol_marks marks.0 marks.1 0 plain b bond at)) in
          let below : b < length plain = (let short = place_within bonds b bond at in let long = length-map bonds edge_of ∙ refl in omega (arith, short, ap length same, length-map bonds edge_of)) in
          subst (λ (es : List Edge). HasMarks es b bond) (sym same) (record {
            ring = same_reason bond.ring (get_or marks.0 b false) (IsRingBond plain b) has.ring (marks.2.ring.each b below);
            aromatic = same_reason bond.aromatic (get_or marks.1 b false) (IsAromatic plain b) has.aromatic (marks.2.aromatic.each b below);
          }),
    )

-- the bonds of a graph with the marks at the places from k on
graph_bonds : List Bool → List Bool → ℕ → List GraphBond → List GraphBond
graph_bonds rings aromatics k [] = []
graph_bonds rings aromatics k (bond ∷ bonds) =
    record bond { ring = get_or rings k false; aromatic = get_or aromatics k false } ∷ graph_bonds rings aromatics (k + 1) bonds

graph_bare : (rings aromatics : List Bool) (k : ℕ) (drawn : List GraphBond) → bare_bonds (graph_bonds rings aromatics k drawn) ≡ bare_bonds drawn
unfolding graph_bonds
graph_bare rings aromatics k [] = refl
graph_bare rings aromatics k (bond ∷ drawn) = ap (λ (bs : List GraphBond). bare_bond bond ∷ bs) (graph_bare rings aromatics (k + 1) drawn)

record HasMarksAt (rings aromatics : List Bool) (k : ℕ) (bond : GraphBond) : Type 0 where
  ring : bond.ring ≡ get_or rings k false
  aromatic : bond.aromatic ≡ get_or aromatics k false

graph_marks : (rings aromatics : List Bool) (k : ℕ) (drawn : List GraphBond) (b : ℕ) (bond : GraphBond)
    → slice_get (graph_bonds rings aromatics k drawn) b ≡ Some bond → HasMarksAt rings aromatics (k + b) bond
unfolding graph_bonds
graph_marks rings aromatics k [] b bond at = absurd cc
graph_marks rings aromatics k (first ∷ drawn) zero bond at =
    (let e : k + 0 ≡ k = omega arith in rw e (record { ring = ap (λ (x : GraphBond). x.ring) (sym (some_is at)); aromatic = ap (λ (x : GraphBond). x.aromatic) (sym (some_is at)) }))
  where
    some_is : {x y : GraphBond} → Some x ≡ Some y → x ≡ y
    some_is same = cc
graph_marks rings aromatics k (first ∷ drawn) (suc b) bond at =
    (let e : k + suc b ≡ k + 1 + b = omega arith in rw e (graph_marks rings aromatics (k + 1) drawn b bond at))

pub graph_bonds_have_marks : GraphBondsHaveMarks
graph_bonds_have_marks atoms drawn simple =
    let marks = edges_have_marks atoms (graph_edges drawn) simple in
    let bonds = graph_bonds marks.0 marks.1 0 drawn in
    let same : bare_bonds bonds ≡ bare_bonds drawn = graph_bare marks.0 marks.1 0 drawn in (
      bonds,
      same,
      λ b bond at.
          let has : HasMarksAt marks.0 marks.1 b bond = (let e : 0 + b ≡ b = omega arith in rw e at (graph_marks marks.0 marks.1 0 drawn b bond at)) in
          let below : b < length (graph_edges drawn) = (let short = place_within bonds b bond at in omega (arith, short, same_length drawn bonds same, length-map drawn graph_edge)) in
          subst (λ (es : List Edge). HasGraphMarks es b bond) (sym (same_edges drawn bonds same)) (record {
            ring = same_reason bond.ring (get_or marks.0 b false) (IsRingBond (graph_edges drawn) b) has.ring (marks.2.ring.each b below);
            aromatic = same_reason bond.aromatic (get_or marks.1 b false) (IsAromatic (graph_edges drawn) b) has.aromatic (marks.2.aromatic.each b below);
          }),
    )
