-- For the code alone: marks of the bonds on the way between two atoms of a tree.
--     Parts nodes x u v              exactly one of u and v is x or stands below x
--     MarksWay nodes u v old new     besides the old marks those of the bonds that part u and v
use Rattle.std.specs.Prelude.{◌≢◌, ◌⊎◌, ℕ, Bool, List}
use Rattle.mk_marks.specs.Marks.{IsMarked}
use Rattle.mk_rings.specs.declared.node.Node.{Node}
use Rattle.mk_rings.specs.Forests.{is_over, HangsBy}

-- exactly one of u and v is x or hangs below x
abbrev pub Parts : List Node → ℕ → ℕ → ℕ → Type 0
Parts nodes x u v = is_over nodes x u ≢ is_over nodes x v

-- besides the old marks those are set by whose bonds an atom hangs that parts u and v, and no
-- others
pub record MarksWay (nodes : List Node) (u v : ℕ) (old new : List Bool) : Type 0 where
  pub kept : (b : ℕ) → IsMarked old b → IsMarked new b
  pub way : (x b : ℕ) → HangsBy nodes x b → Parts nodes x u v → IsMarked new b
  pub only : (b : ℕ) → IsMarked new b → IsMarked old b ⊎ ((x : ℕ) × HangsBy nodes x b × Parts nodes x u v)
