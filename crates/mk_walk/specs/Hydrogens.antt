-- Plain hydrogens while a walk goes on. This file serves the code alone.
--     IsTaker graph x e                  atom e, which is no plain hydrogen, may lie on one of x's image
--     LeavesNoneFree graph mol first     where plain hydrogens of the first atoms lie, none below them
--                                        is left free, but for later takers
--     ArePlain graph list                the list of the plain hydrogens of the graph
--     IsInOrder mol first a one          what one of the list asks where atom a is put behind the
--                                        first images
use Rattle.std.specs.Prelude.{◌≡◌, ◌<◌, ◌≤◌, ◌+◌, ◌-◌, ◌++◌, ◌∷◌, ◌⊎◌, [], ℕ, List, Some, length, slice_get, All, Contains, IsTrue}
use Rattle.mk_model.specs.declared.graph.GraphAtom.{GraphAtom}
use Rattle.mk_model.specs.declared.graph.GraphBond.{GraphBond}
use Rattle.mk_model.specs.Edges.{HasEnds, numbers_at}
use Rattle.mk_model.specs.Molecules.{Molecule}
use Rattle.mk_model.specs.Graphs.{GraphView, graph_edge, graph_edges}
use Rattle.mk_model.specs.Tests.{accepts}
use Rattle.mk_model.specs.Hits.{image, IsPlainAt, IsPlainDrawn}
use Rattle.mk_walk.specs.declared.hydrogens.PlainHydrogen.{PlainHydrogen}
use Rattle.mk_walk.specs.Candidates.{end_numbered}

-- ---- other atoms that may take hydrogens

-- the bond of this number joins the atoms a and b
abbrev pub JoinsAt : GraphView → ℕ → ℕ → ℕ → Type 0
JoinsAt graph a b number = (bond : GraphBond) → slice_get graph.bonds (number - 1) ≡ Some bond → HasEnds (graph_edge bond) a b

-- each bond of atom e leads to x
abbrev pub LeadsTo : GraphView → ℕ → ℕ → Type 0
LeadsTo graph x e = All (JoinsAt graph e x) (numbers_at (graph_edges graph.bonds) e)

-- Atom e of the graph may lie on a hydrogen of x's image: it is no plain hydrogen, its kind takes
-- hydrogen, and it has no bond but to x.
pub record IsTaker (graph : GraphView) (x e : ℕ) : Type 0 where
  pub least : 1 ≤ e
  pub most : e ≤ length graph.atoms
  pub other : (host : ℕ) → IsPlainDrawn graph host e → ⊥
  pub asked : GraphAtom
  pub asked_at : slice_get graph.atoms (e - 1) ≡ Some asked
  pub takes : IsTrue (accepts asked.test.kind 1)
  pub leads : LeadsTo graph x e

-- an atom behind the first so many may take a hydrogen of x's image
pub record HasTakerBehind (graph : GraphView) (x size : ℕ) : Type 0 where
  pub e : ℕ
  pub behind : size < e
  pub taker : IsTaker graph x e

-- where a plain hydrogen of the first atoms lies on a plain hydrogen, each one there that is below it
-- is one of the first images, or a later atom may take it
abbrev pub LeavesNoneFree : GraphView → Molecule → List ℕ → Type 0
LeavesNoneFree graph mol first =
    (x h m y : ℕ) → IsPlainDrawn graph x h → h ≤ length first → IsPlainAt mol m (image first h) → IsPlainAt mol m y → y < image first h
    → Contains first y ⊎ HasTakerBehind graph x (length first)

-- ---- the list of the plain hydrogens

-- the last taker for the atom of a plain hydrogen, where one is behind it, or else the hydrogen
-- itself
pub record IsDue (graph : GraphView) (host atom due : ℕ) : Type 0 where
  pub from : atom ≤ due
  pub taker : atom < due → IsTaker graph host due
  pub last : (e : ℕ) → IsTaker graph host e → e ≤ due

-- the last plain hydrogen before another on its atom, or 0 where it is the first
pub record IsBefore (graph : GraphView) (host atom before : ℕ) : Type 0 where
  pub under : before < atom
  pub plain : 1 ≤ before → IsPlainDrawn graph host before
  pub last : (h : ℕ) → IsPlainDrawn graph host h → h < atom → h ≤ before

-- a plain hydrogen of the graph, with the atom that it is on, the one before it there, and the atom
-- with which no taker is left
pub record IsEntry (graph : GraphView) (one : PlainHydrogen) : Type 0 where
  pub plain : IsPlainDrawn graph one.host one.atom
  pub least : 1 ≤ one.atom
  pub before : IsBefore graph one.host one.atom one.before
  pub due : IsDue graph one.host one.atom one.due

-- one of the list is atom h
pub record IsListed (list : List PlainHydrogen) (h : ℕ) : Type 0 where
  pub one : PlainHydrogen
  pub has : Contains list one
  pub is : one.atom ≡ h

-- all plain hydrogens of the graph
pub record ArePlain (graph : GraphView) (list : List PlainHydrogen) : Type 0 where
  pub each : All (IsEntry graph) list
  pub all : (x h : ℕ) → IsPlainDrawn graph x h → IsListed list h

-- one of the list is atom h, on this host
pub record IsListedOn (list : List PlainHydrogen) (host h : ℕ) : Type 0 where
  pub one : PlainHydrogen
  pub has : Contains list one
  pub is : one.atom ≡ h
  pub on : one.host ≡ host

-- ---- what is asked where an atom is put

-- the other end of the bond of this number, as seen from atom m, is taken, where it is a plain
-- hydrogen below y
abbrev pub IsEndTaken : Molecule → List ℕ → ℕ → ℕ → ℕ → Type 0
IsEndTaken mol taken m y number = IsPlainAt mol m (end_numbered mol.bonds number m) → end_numbered mol.bonds number m < y → Contains taken (end_numbered mol.bonds number m)

-- where y is a plain hydrogen, those below it on the same atom are taken
abbrev pub AreLowerTaken : Molecule → List ℕ → ℕ → Type 0
AreLowerTaken mol taken y = (m z : ℕ) → IsPlainAt mol m y → IsPlainAt mol m z → z < y → Contains taken z

-- The image of a plain hydrogen is above that of the one before it, asked where it is put. With the
-- last atom that may take another, those below its image are taken.
pub record IsInOrder (mol : Molecule) (first : List ℕ) (a : ℕ) (one : PlainHydrogen) : Type 0 where
  pub above : one.atom ≡ length first + 1 → 1 ≤ one.before → image first one.before < a
  pub free : one.due ≡ length first + 1 → AreLowerTaken mol (first ++ a ∷ []) (image (first ++ a ∷ []) one.atom)

-- the numbers of an entry rise
pub record HasNumbers (one : PlainHydrogen) : Type 0 where
  pub least : 1 ≤ one.atom
  pub before : one.before < one.atom
  pub due : one.atom ≤ one.due
