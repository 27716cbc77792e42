-- For the code: what a `Shelf` keeps.
--     AreScreens rows screens          beside each row stands the screen of its molecule
--     IsKept rows screens columns      and the columns hold the bits of these
use Rattle.std.specs.Prelude.{ℕ, List, [], ◌∷◌, ⊤}
use Rattle.mk_model.specs.Molecules.{Molecule}
use Rattle.mk_model.specs.declared.screen.Screen.{Screen}
use Rattle.mk_model.specs.Screens.{IsScreenOf}
use Rattle.mk_rows.specs.declared.by_number.Numbered.{Numbered}
use Rattle.mk_index.specs.Columns.{AreColumns}

-- beside each row stands the screen of its molecule
abbrev pub AreScreens : List (Numbered Molecule) → List Screen → Type 0
AreScreens [] [] = ⊤
AreScreens (row ∷ rows) (screen ∷ screens) = IsScreenOf row.item screen × AreScreens rows screens
AreScreens [] (screen ∷ screens) = ⊥
AreScreens (row ∷ rows) [] = ⊥

-- the screens are those of the molecules, and the columns hold their bits
pub record IsKept (rows : List (Numbered Molecule)) (screens : List Screen) (columns : List ℕ) : Type 0 where
  pub beside : AreScreens rows screens
  pub bits : AreColumns screens columns
