-- Counts of a graph and of a molecule, taken atom by atom.
--     tallied_none                   the atoms of each element, up to an atom
--     asked_more                     what is asked for, with one element more
--     none_held, few_held            where there are too few atoms, or too few of an element, there is no hit
use Rattle.std.proofs.Common.{◌≡◌, ℕ, ◌+◌, ◌-◌, ◌<◌, ◌≤◌, List, [], ◌∷◌, ◌++◌, length, get_or, replicate, refl, ◌∙◌, arith, All, Contains}
use Rattle.std.specs.Prelude.{count_by}
use Rattle.std.specs.List.{range_with_len}
use Rattle.std.proofs.lemmas.List.{get_or-replicate}
use Rattle.std.proofs.lemmas.List.Elements.{All-push}
use Rattle.std.proofs.lemmas.List.FromFn.{get_or-range_with_len, length-range_with_len}
use Rattle.mk_model.specs.declared.molecule.Atom.{Atom}
use Rattle.mk_model.specs.Graphs.{GraphView}
use Rattle.mk_model.specs.Hits.{IsHit}
use Rattle.mk_model.specs.Molecules.{Molecule}
use Rattle.mk_counts.specs.declared.asked.Asked.{Asked}
use Rattle.mk_counts.specs.declared.asked.Counts.{Counts}
use Rattle.mk_counts.specs.declared.asked.ElementCount.{ElementCount}
use Rattle.mk_counts.specs.Asked.{AreAsked, AreThere, IsAsked}
use Rattle.mk_counts.specs.Counts.{HasNoHit, asks_for, is_of}
use Rattle.mk_text.proofs.PickedLemmas.{fits_in}
use Rattle.mk_counts.proofs.CountLemmas.{enough}

-- ---- the atoms of each element

-- at place z stands how many of the atoms are of element z
pub record Tallied (atoms : List Atom) (elements : List ℕ) : Type 0 where
  pub all : length elements ≡ 119
  pub each : (z : ℕ) → z ≤ 118 → get_or elements z 0 ≡ count_by (is_of z) atoms

pub tallied_none : Tallied [] (replicate 119 0)
tallied_none = record { all = refl; each = λ z known. get_or-replicate 119 z 0 0 (omega arith) }

-- ---- what is asked for

-- one element more
pub asked_more : (graph : GraphView) (elements : List ElementCount) (one : ElementCount) → All (IsAsked graph) elements
    → one.element ≤ 118 → one.count ≡ count_by (asks_for one.element) graph.atoms
    → All (IsAsked graph) (elements ++ one ∷ [])
asked_more graph elements one are known count = All-push (IsAsked graph) elements one are (record { known = known; count = count })

-- ---- too few

-- a hit takes as many atoms as the graph has
hit_fits : (graph : GraphView) (mol : Molecule) (hit : List ℕ) → IsHit graph mol hit → length graph.atoms ≤ length mol.atoms
hit_fits graph mol hit is =
    let numbers = range_with_len 1 (length mol.atoms) in
    omega (arith, fits_in hit numbers is.distinct there, is.one_each, length-range_with_len 1 (length mol.atoms))
  where
    there : All (Contains (range_with_len 1 (length mol.atoms))) hit
    there i d within =
        let range = is.within i d within in
        let atom = get_or hit i d in
        let place : atom - 1 < length mol.atoms = omega (arith, range.0, range.1) in
        let number : 1 + (atom - 1) ≡ atom = omega (arith, range.0) in
        (atom - 1, omega (arith, place, length-range_with_len 1 (length mol.atoms)), get_or-range_with_len 1 (length mol.atoms) (atom - 1) atom place ∙ number)

pub none_held : (graph : GraphView) (mol : Molecule) (asked : Asked) (counts : Counts) → counts.atoms < asked.atoms → AreAsked graph asked → AreThere mol counts → HasNoHit graph mol
none_held graph mol asked counts few are has hit is = omega (arith, few, are.atoms, has.atoms, hit_fits graph mol hit is)

pub few_held : (graph : GraphView) (mol : Molecule) (asked : Asked) (counts : Counts) (i : ℕ) (d : ElementCount) → i < length asked.elements.items
    → get_or counts.elements (get_or asked.elements.items i d).element 0 < (get_or asked.elements.items i d).count → AreAsked graph asked → AreThere mol counts → HasNoHit graph mol
few_held graph mol asked counts i d below few are has hit is =
    let one = get_or asked.elements.items i d in
    let asks : IsAsked graph one = are.elements i d below in
    omega (arith, few, asks.count, has.elements one.element asks.known, enough graph mol one.element hit is)
