-- Numbers behind a blank, and entries behind their count.
--     IsBlankAt line at                     the column is blank
--     IsSpacedNumber line at n              the column is blank, and the three after it hold n
--     AreCounted most cells Is entries      the cells hold the number of entries, 1 to most, and
--                                           each stands in its place
--     ArePairs most line at pairs           the pairs whose count begins at this column
--     IsPairLine word most line pairs       a line of pairs, as `M  CHG` and `M  RGP`
--     IsLinkLine line links                 an `M  LIN` line
--     IsOrderLine line order                an `M  AAL` line
use Rattle.std.specs.Prelude.{◌≡◌, ℕ, ◌+◌, ◌*◌, ◌≤◌, List, length, slice_get, Some, ℤ, pos, codes}
use Rattle.mk_text.specs.Columns.{columns}
use Rattle.mk_text.specs.Fields.{IsField}
use Rattle.mk_props.specs.declared.property.Pair.{Pair}
use Rattle.mk_props.specs.declared.property.LinkEntry.{LinkEntry}
use Rattle.mk_props.specs.declared.property.SiteOrder.{SiteOrder}

-- the column is blank
abbrev pub IsBlankAt : List ℕ → ℕ → Type 0
IsBlankAt line at = columns line at at ≡ codes " "

-- a blank in this column, and a number in the three after it
pub record IsSpacedNumber (line : List ℕ) (at : ℕ) (n : ℤ) : Type 0 where
  pub space : IsBlankAt line at
  pub number : IsField (columns line (at + 1) (at + 3)) n

-- the cells hold the number of entries, from 1 to most, and each entry is what stands in its place,
-- counted from 0
pub record AreCounted {X : Type 0} (most : ℕ) (cells : List ℕ) (Is : ℕ → X → Type 0) (entries : List X) : Type 0 where
  pub some : 1 ≤ length entries
  pub no_more : length entries ≤ most
  pub count : IsField cells (pos (length entries))
  pub each : (i : ℕ) (entry : X) → slice_get entries i ≡ Some entry → Is i entry

-- ` aaa vvv`: a blank, the atom in three columns, a blank, the value in three
pub record IsPairAt (line : List ℕ) (at : ℕ) (pair : Pair) : Type 0 where
  pub atom : IsSpacedNumber line at pair.atom
  pub value : IsSpacedNumber line (at + 4) pair.value

-- `nn8 aaa vvv ..`: from this column on three for the count, and eight for each pair
abbrev pub ArePairs : ℕ → List ℕ → ℕ → List Pair → Type 0
ArePairs most line at pairs = AreCounted most (columns line at (at + 2)) (λ i pair. IsPairAt line (at + 3 + 8 * i) pair) pairs

-- `M  CHGnn8 aaa vvv ..`: this word, and at most so many pairs
pub record IsPairLine (word : List ℕ) (most : ℕ) (line : List ℕ) (pairs : List Pair) : Type 0 where
  pub begins : columns line 1 6 ≡ word
  pub entries : ArePairs most line 7 pairs

-- ` aaa vvv bbb ccc`: the link atom, how often it may stand, and the two neighbours that it stands
-- between
pub record IsLinkAt (line : List ℕ) (at : ℕ) (link : LinkEntry) : Type 0 where
  pub atom : IsSpacedNumber line at link.atom
  pub most : IsSpacedNumber line (at + 4) link.most
  pub from : IsSpacedNumber line (at + 8) link.from
  pub to : IsSpacedNumber line (at + 12) link.to

-- `M  LINnn4 aaa vvv bbb ccc ..`: at most four entries of sixteen columns
pub record IsLinkLine (line : List ℕ) (links : List LinkEntry) : Type 0 where
  pub begins : columns line 1 6 ≡ codes "M  LIN"
  pub entries : AreCounted 4 (columns line 7 9) (λ i link. IsLinkAt line (10 + 16 * i) link) links

-- `M  AAL aaann2 bbb ooo ..`: the site, and for at most two neighbours the place of each
pub record IsOrderLine (line : List ℕ) (order : SiteOrder) : Type 0 where
  pub begins : columns line 1 6 ≡ codes "M  AAL"
  pub atom : IsSpacedNumber line 7 order.atom
  pub entries : ArePairs 2 line 11 order.entries
