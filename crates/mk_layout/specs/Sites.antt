-- For the code: what fills a site, and what stands there where nothing does.
--     MayBeFilledSmall query slot           the labels of a slot rise, and each member is small
--     left_open_by rest count               what an unfilled site becomes
use Rattle.std.specs.Prelude.{◌==◌, ℕ, Bool, Contains, if◌then◌else◌}
use Rattle.mk_model.specs.Pieces.{Piece}
use Rattle.mk_model.specs.Pieces.Piece.{Hydrogens, Nothing}
use Rattle.mk_model.specs.declared.template.Slot.{Slot}
use Rattle.mk_model.specs.Labels.{members_at, site_labels}
use Rattle.mk_model.specs.Queries.{QueryView}
use Rattle.mk_model.specs.QueryFits.{AreRisingLabels}
use Rattle.mk_pieces.specs.Rooms.{IsSmallTemplate}

-- the labels of a slot rise, and each member is small
pub record MayBeFilledSmall (query : QueryView) (slot : Slot) : Type 0 where
  pub labels : AreRisingLabels (site_labels slot)
  pub members : (u : ℕ) → Contains (members_at query slot) u → IsSmallTemplate query u

-- what an unfilled site between so many neighbours becomes, where hydrogens are drawn there or not
abbrev pub left_open_by : Bool → ℕ → Piece
left_open_by rest second = if rest then Hydrogens (if second == 0 then 1 else 2) else Nothing
