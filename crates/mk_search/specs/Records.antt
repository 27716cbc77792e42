-- For the code: the next record that may have a key.
--     HasKeys rows query n              some occurrence of the query is in the molecule under n
--     IsNextRecord rows query from n    a held number from there on, and none below it has keys
--     NoRecord rows query from          from there on none has keys
use Rattle.std.specs.Prelude.{◌≡◌, ◌≤◌, ℕ, true, List}
use Rattle.mk_model.specs.Keys.{IsOccurrence}
use Rattle.mk_model.specs.Molecules.{Molecule}
use Rattle.mk_model.specs.Queries.{QueryView}
use Rattle.mk_rows.specs.declared.by_number.Numbered.{Numbered}
use Rattle.mk_rows.specs.Rows.{holds}
use Rattle.mk_search.specs.Pages.{IsHeldIn}

-- the query has an occurrence in the molecule under the number
pub record HasKeys (rows : List (Numbered Molecule)) (query : QueryView) (n : ℕ) : Type 0 where
  pub mol : Molecule
  pub numbers : List ℕ
  pub held : IsHeldIn rows n mol
  pub occurs : IsOccurrence query mol numbers

-- the number is held and isn't below `from`, and none from there on that is below it has keys
pub record IsNextRecord (rows : List (Numbered Molecule)) (query : QueryView) (from n : ℕ) : Type 0 where
  pub held : holds n rows ≡ true
  pub not_below : from ≤ n
  pub least : (other : ℕ) → from ≤ other → HasKeys rows query other → n ≤ other

-- from there on none has keys
abbrev pub NoRecord : List (Numbered Molecule) → QueryView → ℕ → Type 0
NoRecord rows query from = (n : ℕ) → from ≤ n → HasKeys rows query n → ⊥
