-- What the code does to charges and radicals. For the code alone.
--     IsOfLine aside line electrons             the charge and the radical of an atom line, which
--                                               may be set aside
--     AreOfLines aside lines list               those of all atom lines
--     ArePut charges radicals old new           what they are after the values of these pairs were
--                                               put
use Rattle.std.specs.Prelude.{◌≡◌, ◌<◌, ◌+◌, ℕ, pos, Bool, List, length, slice_index_or, if◌then◌else◌}
use Rattle.mk_props.specs.declared.property.Pair.{Pair}
use Rattle.mk_demands.specs.declared.charges.Electrons.{Electrons}
use Rattle.mk_tables.specs.declared.raw.RawAtom.{RawAtom}
use Rattle.mk_demands.specs.Charges.{charge_of_column, radical_of_column, last_or, values_for}
use Rattle.mk_demands.specs.Numbers.{natural}

-- the number of the charge column, or 0 where it is set aside
abbrev pub column_of : Bool → RawAtom → ℕ
column_of aside line = if aside then 0 else natural line.charge

-- the charge and the radical of an atom line, which may be set aside
pub record IsOfLine (aside : Bool) (line : RawAtom) (electrons : Electrons) : Type 0 where
  pub charge : electrons.charge ≡ charge_of_column (column_of aside line)
  pub radical : pos electrons.radical ≡ radical_of_column (column_of aside line)

-- the list has the charge and the radical of each atom line, in order, which may be set aside
pub record AreOfLines (aside : Bool) (lines : List RawAtom) (list : List Electrons) : Type 0 where
  pub size : length list ≡ length lines
  pub each : (i : ℕ) (line : RawAtom) (electrons : Electrons) → i < length lines → IsOfLine aside (slice_index_or lines i line) (slice_index_or list i electrons)

-- what atom n has after the values for it were put, the charges of some pairs and the radicals of
-- others
pub record HasPut (charges radicals : List Pair) (n : ℕ) (old new : Electrons) : Type 0 where
  pub charge : new.charge ≡ last_or old.charge (values_for n charges)
  pub radical : pos new.radical ≡ last_or (pos old.radical) (values_for n radicals)

-- what all have after the values of these pairs were put
pub record ArePut (charges radicals : List Pair) (old new : List Electrons) : Type 0 where
  pub size : length new ≡ length old
  pub each : (i : ℕ) (d : Electrons) → i < length old → HasPut charges radicals (i + 1) (slice_index_or old i d) (slice_index_or new i d)
