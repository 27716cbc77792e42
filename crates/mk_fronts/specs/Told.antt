-- For the code: what is known of the numbers that may stand at the slots of the root.
--     IsSo query mol told       where the answer is no, the molecule doesn't hold the number alone
--     AreChoices query most     for each slot of the root how many numbers may stand for it
--     IsPlaceAt places s n      the s-th of some places is this one
use Rattle.std.specs.Prelude.{◌≡◌, ◌<◌, ℕ, List, false, length, slice_index}
use Rattle.mk_model.specs.Molecules.{Molecule}
use Rattle.mk_model.specs.OpenSlots.{most_at}
use Rattle.mk_model.specs.Queries.{QueryView, slots_of}
use Rattle.mk_open_codes.specs.Alone.{HoldsNoneAlone, root_slot}
use Rattle.mk_fronts.specs.declared.told.Told.{Told}

-- where it was told that the molecule can't hold a number alone at a slot of the root, it doesn't
abbrev pub IsSo : QueryView → Molecule → Told → Type 0
IsSo query mol told = told.may ≡ false → HoldsNoneAlone query mol told.slot told.number

-- for each slot of the root, how many numbers may stand for it
pub record AreChoices (query : QueryView) (most : List ℕ) : Type 0 where
  pub size : length most ≡ length (slots_of query 0)
  pub each : (s : ℕ) → s < length most → slice_index most s ≡ most_at query (root_slot query s)

-- the s-th of some places, from 0 on, is this one
pub record IsPlaceAt (places : List ℕ) (s n : ℕ) : Type 0 where
  pub within : s < length places
  pub is : slice_index places s ≡ n
