-- What a walk through the lists of atoms keeps. This file serves the code alone.
--     place_of images depth above        the list from which on the walk has still to look
--     IsWalk graph mol images levels depth      the first images may be those of a hit, and the
--                                               levels say where they stand
--     lists_from most n place            how many lists of n numbers aren't below the place
--     lists_left graph mol images depth above   how many the walk has still to look at
use Rattle.std.specs.Prelude.{◌≡◌, ◌<◌, ◌+◌, ◌*◌, ◌-◌, ◌^◌, ℕ, zero, suc, List, [], ◌∷◌, ◌++◌, length, take, slice_index}
use Rattle.mk_model.specs.Molecules.{IsMolecule, Molecule}
use Rattle.mk_model.specs.Graphs.{GraphView, IsGraph}
pub use Rattle.mk_model.specs.Nodes.{SameFrom}
use Rattle.mk_walk.specs.Begun.{IsBegun}

-- the list from which on there is still to look: the first images, and behind them a number above
-- the one that is passed
abbrev pub place_of : List ℕ → ℕ → ℕ → List ℕ
place_of images depth above = take depth images ++ (above + 1) ∷ []

-- the first images may be those of a hit, fewer than the graph has atoms, and the levels say where
-- each of them stands
pub record IsWalk (graph : GraphView) (mol : Molecule) (images levels : List ℕ) (depth : ℕ) : Type 0 where
  pub drawing : IsGraph graph
  pub molecule : IsMolecule mol
  pub room : length images ≡ length graph.atoms
  pub sized : length levels ≡ length mol.atoms
  pub short : depth < length graph.atoms
  pub begun : IsBegun graph mol (take depth images)
  pub stand : (j : ℕ) → j < depth → slice_index levels (slice_index images j - 1) ≡ j

-- how many lists of so many numbers up to the greatest aren't below the place
unfoldable pub lists_from : ℕ → ℕ → List ℕ → ℕ
lists_from most n [] = (most + 1) ^ n
lists_from most zero (x ∷ place) = 0
lists_from most (suc n) (x ∷ place) = (most - x) * (most + 1) ^ n + lists_from most n place

-- how many lists of as many numbers as the graph has atoms the walk has still to look at
abbrev pub lists_left : GraphView → Molecule → List ℕ → ℕ → ℕ → ℕ
lists_left graph mol images depth above = lists_from (length mol.atoms + 1) (length graph.atoms) (place_of images depth above)
