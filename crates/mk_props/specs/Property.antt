-- Property lines, kind by kind.
--     IsProperty line property      the line is this property
-- The columns that a line begins with say its kind, and no line begins as two kinds do. Where it
-- breaks the layout of its kind, or begins as none, it is no property.
use Rattle.std.specs.Prelude.{◌≡◌, ℕ, ◌⊎◌, List, [], ◌∷◌, Contains, pos, codes}
use Rattle.mk_text.specs.Columns.{columns}
use Rattle.mk_text.specs.Fields.{IsField}
use Rattle.mk_props.specs.declared.property.Property.{Property}
use Rattle.mk_props.specs.declared.property.Property.TheVariants as kinds
use Rattle.mk_props.specs.Entries.{IsPairLine, IsLinkLine, IsOrderLine}
use Rattle.mk_props.specs.Lists.{IsListLine}
use Rattle.mk_props.specs.Logic.{IsLogicLine}

-- ---- lines passed over

-- the words that name a kind of their own
abbrev pub known_words : List (List ℕ)
known_words =
    codes "M  END" ∷ codes "M  CHG" ∷ codes "M  RAD" ∷ codes "M  ISO" ∷ codes "M  RBC" ∷ codes "M  SUB" ∷ codes "M  UNS"
    ∷ codes "M  RGP" ∷ codes "M  APO" ∷ codes "M  LIN" ∷ codes "M  ALS" ∷ codes "M  AAL" ∷ codes "M  LOG" ∷ []

-- `M  ` and another word is passed over alone
pub record IsOtherLine (line : List ℕ) (after : ℕ) : Type 0 where
  pub begins : columns line 1 3 ≡ codes "M  "
  pub other : Contains known_words (columns line 1 6) → ⊥
  pub alone : after ≡ 0

-- `A  ` and `G  ` are passed over with the line of text after them
pub record IsTextLine (line : List ℕ) (after : ℕ) : Type 0 where
  pub begins : (columns line 1 3 ≡ codes "A  ") ⊎ (columns line 1 3 ≡ codes "G  ")
  pub with_text : after ≡ 1

-- `V  ` is passed over alone
pub record IsValueLine (line : List ℕ) (after : ℕ) : Type 0 where
  pub begins : columns line 1 3 ≡ codes "V  "
  pub alone : after ≡ 0

-- `S  SKPnnn` is passed over with the next nnn lines
pub record IsSkipLine (line : List ℕ) (after : ℕ) : Type 0 where
  pub begins : columns line 1 6 ≡ codes "S  SKP"
  pub count : IsField (columns line 7 9) (pos after)

-- a line passed over together with so many lines after it
abbrev pub IsPassed : List ℕ → ℕ → Type 0
IsPassed line after = IsOtherLine line after ⊎ (IsTextLine line after ⊎ (IsValueLine line after ⊎ IsSkipLine line after))

-- ---- all kinds

-- the line is this property
abbrev pub IsProperty : List ℕ → Property → Type 0
IsProperty line (kinds.Charge pairs) = IsPairLine (codes "M  CHG") 8 line pairs
IsProperty line (kinds.Radical pairs) = IsPairLine (codes "M  RAD") 8 line pairs
IsProperty line (kinds.Isotope pairs) = IsPairLine (codes "M  ISO") 8 line pairs
IsProperty line (kinds.RingBonds pairs) = IsPairLine (codes "M  RBC") 8 line pairs
IsProperty line (kinds.Substitution pairs) = IsPairLine (codes "M  SUB") 8 line pairs
IsProperty line (kinds.Unsaturation pairs) = IsPairLine (codes "M  UNS") 8 line pairs
IsProperty line (kinds.Label pairs) = IsPairLine (codes "M  RGP") 8 line pairs
IsProperty line (kinds.Points pairs) = IsPairLine (codes "M  APO") 2 line pairs
IsProperty line (kinds.Link links) = IsLinkLine line links
IsProperty line (kinds.List list) = IsListLine line list
IsProperty line (kinds.Order order) = IsOrderLine line order
IsProperty line (kinds.Logic logic) = IsLogicLine line logic
IsProperty line (kinds.Passed after) = IsPassed line after
IsProperty line kinds.End = columns line 1 6 ≡ codes "M  END"
