-- Atom lists.
--     IsListLine line list      an `M  ALS` line
use Rattle.std.specs.Prelude.{◌≡◌, ℕ, ◌+◌, ◌*◌, Bool, true, false, List, codes}
use Rattle.mk_text.specs.Columns.{columns, trimmed}
use Rattle.mk_props.specs.declared.property.AtomList.{AtomList}
use Rattle.mk_props.specs.Entries.{IsBlankAt, IsSpacedNumber, AreCounted}

-- `T` where the atom has none of the symbols, `F` where it has one of them
abbrev pub flag_text : Bool → List ℕ
flag_text true = codes "T"
flag_text false = codes "F"

-- the symbol in four columns, without the blanks around it; the first stands in the columns 17 to
-- 20
abbrev pub symbol_of : List ℕ → ℕ → List ℕ
symbol_of line i = trimmed (columns line (17 + 4 * i) (20 + 4 * i))

-- `M  ALS aaan16 t ssss..`: the atom, T or F between blanks, and at most sixteen symbols
pub record IsListLine (line : List ℕ) (list : AtomList) : Type 0 where
  pub begins : columns line 1 6 ≡ codes "M  ALS"
  pub atom : IsSpacedNumber line 7 list.atom
  pub space_before : IsBlankAt line 14
  pub flag : columns line 15 15 ≡ flag_text list.not
  pub space_after : IsBlankAt line 16
  pub symbols : AreCounted 16 (columns line 11 13) (λ i symbol. symbol ≡ symbol_of line i) list.symbols
