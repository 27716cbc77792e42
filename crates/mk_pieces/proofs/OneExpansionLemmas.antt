-- A code has one expansion.
--     one_expansion        two graphs that are the expansion of a query by a code are one
use Rattle.std.proofs.Common.{◌≡◌, ℕ, ◌<◌, List, [], length, get_or, sym, ap, subst, ◌∙◌, arith}
use Rattle.std.specs.Prelude.{AllPairs, Contains}
use Rattle.std.proofs.lemmas.List.{append-nil, get_or-map, length-map}
use Rattle.std.proofs.lemmas.List.Elements.{Contains-get_or}
use Rattle.mk_model.specs.declared.graph.GraphAtom.{GraphAtom}
use Rattle.mk_model.specs.declared.graph.GraphBond.{GraphBond}
use Rattle.mk_model.specs.Codes.{Choice, spelling}
use Rattle.mk_model.specs.Expansions.{IsExpansion, expansion, unmarked}
use Rattle.mk_model.specs.Graphs.{GraphView, IsBefore}
use Rattle.mk_model.specs.Queries.{QueryView, slots_of}
use Rattle.mk_model.proofs.ForCallers.{one_choice}
use Rattle.mk_marks.specs.Bare.{bare_bond, bare_bonds}
use Rattle.mk_marks.specs.Laws.{OneListOfGraphBonds}
use Rattle.mk_pieces.specs.Fragments.{bare}
use Rattle.mk_pieces.specs.Laws.{OneExpansion}
use Rattle.mk_pieces.proofs.OrderLemmas.{AreIn, one_order}

-- bonds without their marks are in the same order
order_bare : (bonds : List GraphBond) → AllPairs IsBefore bonds → AllPairs IsBefore (bare_bonds bonds)
order_bare bonds order i j d less within =
    let below : j < length bonds = omega (arith, length-map bonds bare_bond) in
    rw (get_or-map bare_bond bonds i d d (omega arith), get_or-map bare_bond bonds j d d below) (order i j d less below)

-- a bond that is held is held without its marks
bare_in : (bonds : List GraphBond) (bond : GraphBond) → Contains bonds bond → Contains (bare_bonds bonds) (bare_bond bond)
bare_in bonds bond is = (is.0, omega (arith, length-map bonds bare_bond, is.1), get_or-map bare_bond bonds is.0 bond (bare_bond bond) is.1 ∙ ap bare_bond is.2)

-- ---- the graph

-- atoms and bonds make a graph
same_graph : (a b : GraphView) → a.atoms ≡ b.atoms → a.bonds ≡ b.bonds → a ≡ b
same_graph a b atoms bonds = ap (λ (x : List GraphAtom). record { atoms = x; bonds = a.bonds }) atoms ∙ ap (λ (x : List GraphBond). record { atoms = b.atoms; bonds = x }) bonds

-- ---- the expansion

-- what the choices of two expansions of one code are
one_choice_of : (query : QueryView) (code : List ℕ) (a b : GraphView) → (p : IsExpansion query code a) → (q : IsExpansion query code b) → p.choice ≡ q.choice
one_choice_of query code a b p q =
    (one_choice query (slots_of query 0) p.choice q.choice [] [] p.made q.made (append-nil (spelling p.choice) ∙ p.spelt ∙ sym q.spelt ∙ sym (append-nil (spelling q.choice)))).choices

-- each bond of the one is, without its marks, one of the other
bare_are_in : (query : QueryView) (code : List ℕ) (a b : GraphView) → IsExpansion query code a → IsExpansion query code b → AreIn (bare_bonds a.bonds) (bare_bonds b.bonds)
bare_are_in query code a b p q c is =
    let k = is.0 in
    let below : k < length a.bonds = omega (arith, length-map a.bonds bare_bond, is.1) in
    let bond = get_or a.bonds k c in
    let inside : Contains a.bonds bond = Contains-get_or a.bonds k c below in
    let asked : Contains (expansion query 0 q.choice).bonds (unmarked bond) =
    subst (λ (x : Choice). Contains (expansion query 0 x).bonds (unmarked bond)) (one_choice_of query code a b p q) (p.each bond inside) in
    let there = q.all (unmarked bond) asked in
    let below' : there.0 < length b.bonds = omega (arith, length-map b.bonds unmarked, there.1) in
    let other = get_or b.bonds there.0 c in
    let alike : unmarked other ≡ unmarked bond = sym (get_or-map unmarked b.bonds there.0 c (unmarked bond) below') ∙ there.2 in
    let here : bare_bond bond ≡ c = sym (get_or-map bare_bond a.bonds k c c below) ∙ is.2 in
    subst (λ (d : GraphBond). Contains (bare_bonds b.bonds) d) (ap bare alike ∙ here) (bare_in b.bonds other (Contains-get_or b.bonds there.0 c below'))

-- two graphs that are the expansion of a query by a code are one
pub one_expansion : OneListOfGraphBonds → OneExpansion
one_expansion law query code a b p q =
    let bare : bare_bonds a.bonds ≡ bare_bonds b.bonds =
    one_order (bare_bonds a.bonds) (bare_bonds b.bonds) (order_bare a.bonds p.kept.sketch.order) (order_bare b.bonds q.kept.sketch.order) (bare_are_in query code a b p q)
    (bare_are_in query code b a q p) in
    let atoms : a.atoms ≡ b.atoms = p.atoms ∙ ap (λ (x : Choice). (expansion query 0 x).atoms) (one_choice_of query code a b p q) ∙ sym q.atoms in
    same_graph a b atoms (law a.bonds b.bonds p.kept.marks q.kept.marks bare)
