-- For code alone: hits page by page.
--     AreOthers rows query place former hits     behind the former hits stand all keys that remain
--                                                from the place on
use Rattle.std.specs.Prelude.{◌≡◌, ℕ, List, ◌++◌}
use Rattle.mk_text.specs.Rising.{IsRisingListOfAll}
use Rattle.mk_model.specs.Keys.{Remains}
use Rattle.mk_model.specs.Molecules.{Molecule}
use Rattle.mk_model.specs.Queries.{QueryView}
use Rattle.mk_rows.specs.declared.by_number.Numbered.{Numbered}
use Rattle.mk_search.specs.Pages.{IsHeldIn}

-- behind the former hits stand all keys that remain from the place on
pub record AreOthers (rows : List (Numbered Molecule)) (query : QueryView) (place : List ℕ) (former hits : List (List ℕ)) : Type 0 where
  pub others : List (List ℕ)
  pub all : IsRisingListOfAll (Remains (IsHeldIn rows) query place) others
  pub whole : hits ≡ former ++ others
