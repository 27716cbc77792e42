-- What the first atoms of a hit keep. This file serves the code alone.
--     IsBegun graph mol first            the first atoms may be those of a hit
--     MayStand graph mol first a         atom a may stand behind them
use Rattle.std.specs.Prelude.{◌≡◌, ◌≢◌, ◌<◌, ◌≤◌, ◌+◌, ◌++◌, ◌∷◌, [], ℕ, List, length, take, All, AllPairs}
use Rattle.mk_model.specs.Molecules.{Molecule}
use Rattle.mk_model.specs.Graphs.{GraphView}
use Rattle.mk_model.specs.Fitting.{FitsAtom, LiesOn}
use Rattle.mk_model.specs.Hits.{image, IsPlainDrawn}
use Rattle.mk_walk.specs.Hydrogens.{LeavesNoneFree}
use Rattle.mk_walk.specs.Table.{MayLie}

-- every test is met that speaks of the first atoms of the graph alone, and no hydrogen was left free
-- on the way that no later atom may take
pub record IsBegun (graph : GraphView) (mol : Molecule) (first : List ℕ) : Type 0 where
  pub short : length first ≤ length graph.atoms
  pub within : All (λ a. (1 ≤ a) × (a ≤ length mol.atoms)) first
  pub distinct : AllPairs (λ a b. a ≢ b) first
  pub atoms : (x : ℕ) → 1 ≤ x → x ≤ length first → FitsAtom graph mol x (image first x)
  pub bonds : All (λ bond. bond.second ≤ length first → LiesOn mol bond (image first bond.first) (image first bond.second)) graph.bonds
  pub rise : (x h later : ℕ) → IsPlainDrawn graph x h → IsPlainDrawn graph x later → h < later → later ≤ length first → image first h < image first later
  pub first_free : (size : ℕ) → size ≤ length first → LeavesNoneFree graph mol (take size first)

-- atom a may stand behind the first ones: its test is met, it isn't among them, its bonds to them lie
-- on bonds, and plain hydrogens are taken in order
pub record MayStand (graph : GraphView) (mol : Molecule) (first : List ℕ) (a : ℕ) : Type 0 where
  pub fits : MayLie graph mol (length first + 1) a
  pub new : All (λ b. b ≢ a) first
  pub bonds : All (λ bond. bond.second ≡ length first + 1 → LiesOn mol bond (image first bond.first) a) graph.bonds
  pub rise : (x h : ℕ) → IsPlainDrawn graph x h → IsPlainDrawn graph x (length first + 1) → h ≤ length first → image first h < a
  pub first_free : LeavesNoneFree graph mol (first ++ a ∷ [])
