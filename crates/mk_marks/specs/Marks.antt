-- Marks of bonds.
--     Marks P marks          the mark of each bond says whether P holds of it
use Rattle.std.specs.Prelude.{◌≡◌, ◌<◌, ◌↔◌, ℕ, Bool, false, true, List, IsTrue, length, slice_index_or}
use Rattle.mk_model.specs.declared.edge.Edge.{Edge}

-- there is a mark for each of the bonds, and it is true exactly where P holds of the bond
pub record Marks (P : ℕ → Type 0) (bonds : List Edge) (marks : List Bool) : Type 0 where
  pub size : length marks ≡ length bonds
  pub each : (b : ℕ) → b < length bonds → IsTrue (slice_index_or marks b false) ↔ P b

-- the bond is marked
abbrev pub IsMarked : List Bool → ℕ → Type 0
IsMarked marks b = slice_index_or marks b false ≡ true
