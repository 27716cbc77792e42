-- For the code: what the open slots can still add, kept as two lists of 32 numbers.
--     open_sites slots g          how many of the slots are sites of group g
--     HasRows ahead               the lists are of 32 numbers
--     IsAhead most slots ahead    they are those of these slots, by these bounds
--     IsLost query counts ahead   whatever the open slots are, nothing completes the counts
use Rattle.std.specs.Prelude.{◌≡◌, ◌<◌, ◌+◌, ℕ, List, length, All, count_by, slice_index}
use Rattle.mk_model.specs.declared.template.Slot.{Slot}
use Rattle.mk_model.specs.declared.query.Count.{Count}
use Rattle.mk_model.specs.Queries.{QueryView}
use Rattle.mk_model.specs.Labels.{bears_label}
use Rattle.mk_choice.specs.declared.pending.Ahead.{Ahead}
use Rattle.mk_choice.specs.Bounds.{AreBounds, bound_in, most_filled}
use Rattle.mk_choice.specs.Search.{CantComplete, IsKnown}

-- how many of the slots are sites of group g
abbrev pub open_sites : List Slot → ℕ → ℕ
open_sites slots g = count_by (λ slot. bears_label slot g) slots

-- the lists are of 32 numbers, one a group
pub record HasRows (ahead : Ahead) : Type 0 where
  pub sites : length ahead.sites ≡ 32
  pub filled : length ahead.filled ≡ 32

-- for each group how many of the open slots are its sites, and how often it can be filled there at
-- most
pub record IsAhead (most : List ℕ) (slots : List Slot) (ahead : Ahead) : Type 0 where
  pub sites : (i : ℕ) → i < 32 → slice_index ahead.sites i ≡ open_sites slots (i + 1)
  pub filled : (i : ℕ) → i < 32 → slice_index ahead.filled i ≡ most_filled (bound_in most) slots (i + 1)

-- whatever the slots are that these lists are of, nothing that is chosen there makes the counts
-- allowed
abbrev pub IsLost : QueryView → List Count → Ahead → Type 0
IsLost query counts ahead =
    (most : List ℕ) (slots : List Slot) → AreBounds query most → All IsKnown slots → IsAhead most slots ahead → CantComplete query counts slots
