use Rattle.std.proofs.Common.{ℕ, List}
use Rattle.mk_walk.specs.Search.{IsLeft, IsSearch}
use Rattle.mk_walk.specs.Walk.{lists_left}
use Rattle.mk_walk.proofs.search.Search.go_on.Given as goal

-- what was left is left
abbrev pub invariant-search : goal.invariant-search
invariant-search l = IsSearch l.graph l.mol l.self × ((place : List ℕ) → IsLeft l.graph l.mol place l.fn.self → IsLeft l.graph l.mol place l.self)

abbrev pub decreases-search : goal.decreases-search
decreases-search l = lists_left l.graph l.mol l.self.walk.images.items l.self.walk.depth l.self.walk.above
