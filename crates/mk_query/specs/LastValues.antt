-- The values that properties of one kind give to atoms, as the code puts them one after the other.
-- For the code alone.
--     pairs_of kind                        which pairs belong to a kind
--     AreLastValues select props values    each atom has the value that the last entry gives it
--     AreValuesPut pairs old new           what they are after the values of these pairs were put
use Rattle.std.specs.Prelude.{◌≡◌, ◌<◌, ◌+◌, ℕ, ℤ, pos, List, length, slice_index_or}
use Rattle.mk_props.specs.declared.property.Pair.{Pair}
use Rattle.mk_props.specs.declared.property.Property.{Property}
use Rattle.mk_demands.specs.Charges.{last_or, values_for}
use Rattle.mk_query.specs.declared.values.ValueKind.{ValueKind}
use Rattle.mk_query.specs.declared.values.ValueKind.TheVariants as kinds
use Rattle.mk_query.specs.Drawn.{pairs_by, point_pairs, ring_bonds_of, substitutions_of, unsaturations_of}

-- the pairs that belong to a kind
abbrev pub pairs_of : ValueKind → Property → List Pair
pairs_of kinds.RingBonds = ring_bonds_of
pairs_of kinds.Substitution = substitutions_of
pairs_of kinds.Unsaturation = unsaturations_of
pairs_of kinds.Points = point_pairs

-- the atom of each place has the value that the last entry gives it, and 0 where none names it
abbrev pub AreLastValues : (Property → List Pair) → List Property → List ℤ → Type 0
AreLastValues select props values =
    (k : ℕ) → k < length values → slice_index_or values k (pos 0) ≡ last_or (pos 0) (values_for (k + 1) (pairs_by select props))

-- each atom has the last of the values that the pairs give it, and its own where they give it none
pub record AreValuesPut (pairs : List Pair) (old new : List ℤ) : Type 0 where
  pub size : length new ≡ length old
  pub each : (k : ℕ) (d : ℤ) → k < length old → slice_index_or new k d ≡ last_or (slice_index_or old k d) (values_for (k + 1) pairs)
