-- For the code: the frames of the numbers that a search has chosen so far.
--     LeavesOpen query slots numbers chosen rest    numbers are chosen at the slots, each at one of
--                                     its own, and leave others open
--     StandsAt query most numbers chosen rest counts ahead   what is kept of the numbers
--     AreFrames query most frames     the frames are those of their numbers
--     numbers_of frames               the numbers
--     open_of frames                  the slots that are open behind them
--     most_first query rest           the greatest number at the first open slot
--     from_of frames                  what is still to come isn't below this list
--     IsOnward old new                the last number is one greater
use Rattle.std.specs.Prelude.{◌≡◌, ◌≤◌, ◌+◌, ℕ, Bool, true, false, List, [], ◌∷◌, ◌++◌, All, length, drop, take}
use Rattle.mk_model.specs.declared.query.Count.{Count}
use Rattle.mk_model.specs.declared.template.Slot.{Slot}
use Rattle.mk_model.specs.Logic.{filled_of, sites_of}
use Rattle.mk_model.specs.OpenSlots.{most_at, opened, standing_by}
use Rattle.mk_model.specs.Queries.{QueryView, slots_of}
use Rattle.mk_model.specs.QueryFits.{QueryFits}
use Rattle.mk_logic.specs.Counts.{filled_at, sites_at}
use Rattle.mk_choice.specs.declared.frames.Frames.{Frames}
use Rattle.mk_choice.specs.declared.pending.Ahead.{Ahead}
use Rattle.mk_choice.specs.Ahead.{HasRows, IsAhead}
use Rattle.mk_choice.specs.Bounds.{AreBounds}
use Rattle.mk_choice.specs.Search.{IsKnown}

-- numbers are chosen at the slots, one after another, each at the slot beside it, and leave others
-- open
abbrev pub LeavesOpen : QueryView → List Slot → List ℕ → List Slot → List Slot → Type 0
LeavesOpen query slots [] [] rest = slots ≡ rest
LeavesOpen query slots [] (s ∷ chosen) rest = ⊥
LeavesOpen query slots (k ∷ numbers) [] rest = ⊥
LeavesOpen query [] (k ∷ numbers) (s ∷ chosen) rest = ⊥
LeavesOpen query (slot ∷ slots) (k ∷ numbers) (s ∷ chosen) rest =
    (slot ≡ s) × (1 ≤ k) × (k ≤ most_at query slot) × LeavesOpen query (opened query slot k ++ slots) numbers chosen rest

-- what is kept of the numbers chosen so far: they leave these slots open; the counts are those of
-- the sites that stand; and what is ahead is that of the open slots
pub record StandsAt (query : QueryView) (most : List ℕ) (numbers : List ℕ) (chosen rest : List Slot) (counts : List Count) (ahead : Ahead) : Type 0 where
  pub fits : QueryFits query
  pub bounds : AreBounds query most
  pub leaves : LeavesOpen query (slots_of query 0) numbers chosen rest
  pub known : All IsKnown rest
  pub chosen_known : All IsKnown chosen
  pub groups : length counts ≡ 32
  pub sites : (g : ℕ) → 1 ≤ g → sites_at counts g ≡ sites_of (standing_by query (slots_of query 0) numbers) g
  pub filled : (g : ℕ) → 1 ≤ g → filled_at counts g ≡ filled_of query (standing_by query (slots_of query 0) numbers) g
  pub rows : HasRows ahead
  pub is_ahead : IsAhead most rest ahead

-- the numbers chosen so far
abbrev pub numbers_of : Frames → List ℕ
numbers_of frames = take frames.depth frames.numbers.items

-- the slots that are open behind them
abbrev pub open_of : Frames → List Slot
open_of frames = drop frames.first frames.waiting

-- the frames are those of the numbers, with room for 512
pub record AreFrames (query : QueryView) (most : List ℕ) (frames : Frames) : Type 0 where
  pub stands : StandsAt query most (numbers_of frames) (take frames.depth frames.slots) (open_of frames) frames.counts frames.ahead
  pub within : frames.depth ≤ 512
  pub numbers_room : length frames.numbers.items ≡ 512
  pub slots_room : length frames.slots ≡ 512
  pub open_room : length frames.waiting ≡ 512
  pub first_within : frames.first ≤ 512

-- the greatest number at the first open slot
abbrev pub most_first : QueryView → List Slot → ℕ
most_first query [] = 0
most_first query (slot ∷ rest) = most_at query slot

-- what is still to come isn't below the numbers, or not below what goes on behind them with a number
-- above one
abbrev pub from_at : Bool → List ℕ → ℕ → List ℕ
from_at true numbers above = numbers
from_at false numbers above = numbers ++ (above + 1) ∷ []

-- what is still to come isn't below this list
abbrev pub from_of : Frames → List ℕ
from_of frames = from_at frames.once (numbers_of frames) frames.above

-- the last number is one greater, and those before it are the same
pub record IsOnward (old new : List ℕ) : Type 0 where
  pub before : List ℕ
  pub last : ℕ
  pub old_is : old ≡ before ++ last ∷ []
  pub new_is : new ≡ before ++ (last + 1) ∷ []
