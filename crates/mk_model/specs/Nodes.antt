-- Nodes: the steps of a search over all choices and all beginnings of maps, as lists in one order
-- with its keys and its places. How many of them lie between two places measures how far a search
-- has come.
--     BeginsCode query numbers              a structural code of the root begins with the numbers
--     IsPartialHit query mol numbers        a structural code, and behind it distinct atoms of the
--                                           molecule, no more than its expansion has
--     IsNode Held query node                a held molecule's number alone, or with one of these
--                                           behind it
--     StandBetween P from to count          so many lists that have P stand above one place and not
--                                           above another
--     Ahead Held query from to count        so many nodes lie above one place and not above another
--     SameFrom P here there                 the same lists that have P remain from either place on
--     Pays P from owed to owing             what a turn passes, and owes before and behind it
--     AheadAddsUp Held                      what lies between a place and a second, and that and a
--                                           third, adds up
-- `Held n mol` says that the molecule is held under the number n.
use Rattle.std.specs.Prelude.{◌≡◌, ◌≢◌, ◌≤◌, ◌+◌, ◌⊎◌, ℕ, List, [], ◌∷◌, ◌++◌, length, All, AllPairs}
use Rattle.mk_text.specs.Rising.{Holds, IsBelow, Rises}
use Rattle.mk_model.specs.Codes.{IsCode}
use Rattle.mk_model.specs.Expansions.{IsExpansion}
use Rattle.mk_model.specs.Graphs.{GraphView}
use Rattle.mk_model.specs.Molecules.{Molecule}
use Rattle.mk_model.specs.Queries.{QueryView}

-- a structural code of the root begins with the numbers
pub record BeginsCode (query : QueryView) (numbers : List ℕ) : Type 0 where
  pub more : List ℕ
  pub code : IsCode query 0 (numbers ++ more)

-- a structural code of the root, and behind it distinct atoms of the molecule, no more than the
-- expansion has
pub record IsPartialHit (query : QueryView) (mol : Molecule) (numbers : List ℕ) : Type 0 where
  pub code : List ℕ
  pub atoms : List ℕ
  pub graph : GraphView
  pub chosen : IsCode query 0 code
  pub expanded : IsExpansion query code graph
  pub few : length atoms ≤ length graph.atoms
  pub within : All (λ a. (1 ≤ a) × (a ≤ length mol.atoms)) atoms
  pub distinct : AllPairs (λ a b. a ≢ b) atoms
  pub whole : numbers ≡ code ++ atoms

-- a held molecule's number alone, or behind it what a code begins with, or a code and some atoms
pub record IsNode (Held : ℕ → Molecule → Type 0) (query : QueryView) (node : List ℕ) : Type 0 where
  pub number : ℕ
  pub mol : Molecule
  pub numbers : List ℕ
  pub held : Held number mol
  pub reached : (numbers ≡ []) ⊎ (BeginsCode query numbers ⊎ IsPartialHit query mol numbers)
  pub whole : node ≡ number ∷ numbers

-- some rising lists that have P, so many, stand above the first place and not above the second
pub record StandBetween (P : List ℕ → Type 0) (from to : List ℕ) (count : ℕ) : Type 0 where
  pub nodes : List (List ℕ)
  pub rise : Rises nodes
  pub each : (node : List ℕ) → Holds nodes node → P node
  pub above : (node : List ℕ) → Holds nodes node → IsBelow from node
  pub not_above : (node : List ℕ) → Holds nodes node → IsBelow to node → ⊥
  pub many : length nodes ≡ count

-- some rising nodes, so many, lie above the first place and not above the second
abbrev pub Ahead : (ℕ → Molecule → Type 0) → QueryView → List ℕ → List ℕ → ℕ → Type 0
Ahead Held query from to count = StandBetween (IsNode Held query) from to count

-- of the lists that have P the same remain from either place on
pub record SameFrom (P : List ℕ → Type 0) (here there : List ℕ) : Type 0 where
  pub on : (xs : List ℕ) → P xs → (IsBelow xs here → ⊥) → IsBelow xs there → ⊥
  pub back : (xs : List ℕ) → P xs → (IsBelow xs there → ⊥) → IsBelow xs here → ⊥

-- What a turn pays, from a place to a second that isn't below it: with what is owed before it, it
-- passes one of the things that have P more than are owed behind it.
pub record Pays (P : List ℕ → Type 0) (from : List ℕ) (owed : ℕ) (to : List ℕ) (owing : ℕ) : Type 0 where
  pub passed : ℕ
  pub stand : StandBetween P from to passed
  pub up : IsBelow to from → ⊥
  pub pays : owing + 1 ≤ owed + passed

-- ---- law

-- what lies between a place and a second that isn't below it, and between that and a third, lies
-- between the first and the third
abbrev pub AheadAddsUp : (ℕ → Molecule → Type 0) → Type 0
AheadAddsUp Held =
    (query : QueryView) (from through to : List ℕ) (j k : ℕ)
    → (IsBelow through from → ⊥) → (IsBelow to through → ⊥)
    → Ahead Held query from through j → Ahead Held query through to k
    → Ahead Held query from to (j + k)
