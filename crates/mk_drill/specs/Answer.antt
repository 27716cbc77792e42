-- The command `drill START COUNT`.
--     IsDrillAnswer start count effect     what it comes to
use Rattle.std.specs.Prelude.{◌≡◌, ℕ, List, []}
use Rattle.mk_drill.specs.Drill.{IsDrill}
use Rattle.mk_found.specs.Effects.{Answers, Effect}

-- the drill answers its line, and changes nothing
pub record IsDrillAnswer (start count : ℕ) (effect : Effect) : Type 0 where
  pub line : List ℕ
  pub is : IsDrill start count line
  pub whole : effect ≡ Answers [] line
