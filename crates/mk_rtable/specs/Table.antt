-- The table of a query: a row for each record in which it is found.
--     HasHit query mol code         the code is valid, and its expansion has a hit in the molecule
--     IsLeastCode query mol code    the least code that has one
--     IsRow Held query row          the number of a held molecule, and behind it the members of the
--                                   least code that has a hit there
--     IsRGroupTable Held query rows       the rising list of all rows
-- `Held n mol` says that the molecule is held under the number n. Rows rise as lists of numbers do,
-- and so by the numbers of their records.
use Rattle.std.specs.Prelude.{◌≡◌, ℕ, List, [], ◌∷◌, map}
use Rattle.mk_text.specs.Rising.{IsLeast, IsRisingListOfAll}
use Rattle.mk_model.specs.Expansions.{IsExpansion}
use Rattle.mk_model.specs.Graphs.{GraphView}
use Rattle.mk_model.specs.Hits.{IsHit}
use Rattle.mk_model.specs.Logic.{IsValid}
use Rattle.mk_model.specs.Molecules.{Molecule}
use Rattle.mk_model.specs.Queries.{QueryView}
use Rattle.mk_rtable.specs.declared.rows.TableRow.{TableRow}
use Rattle.mk_rtable.specs.Members.{AreMembers}

-- the code is valid, and its expansion has a hit in the molecule
pub record HasHit (query : QueryView) (mol : Molecule) (code : List ℕ) : Type 0 where
  pub graph : GraphView
  pub hit : List ℕ
  pub valid : IsValid query code
  pub expanded : IsExpansion query code graph
  pub hits : IsHit graph mol hit

-- of the codes that have a hit in the molecule this is the least
abbrev pub IsLeastCode : QueryView → Molecule → List ℕ → Type 0
IsLeastCode query mol code = IsLeast [] (HasHit query mol) code

-- the number of a held molecule, and behind it the members of the least code that has a hit there
pub record IsRow (Held : ℕ → Molecule → Type 0) (query : QueryView) (row : List ℕ) : Type 0 where
  pub number : ℕ
  pub mol : Molecule
  pub code : List ℕ
  pub members : List ℕ
  pub held : Held number mol
  pub least : IsLeastCode query mol code
  pub are_members : AreMembers query code members
  pub whole : row ≡ number ∷ members

-- a row as one list: the record's number, and behind it the members
abbrev pub numbers_of_row : TableRow → List ℕ
numbers_of_row row = row.number ∷ row.members

-- the table is the rising list of all rows; a number holds one molecule, so a record has one row
abbrev pub IsRGroupTable : (ℕ → Molecule → Type 0) → QueryView → List TableRow → Type 0
IsRGroupTable Held query rows = IsRisingListOfAll (IsRow Held query) (map numbers_of_row rows)
