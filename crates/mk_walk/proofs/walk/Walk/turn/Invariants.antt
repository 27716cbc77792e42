use Rattle.std.proofs.Common.{◌≤◌}
use Rattle.mk_text.specs.Rising.{IsBelow}
use Rattle.mk_model.specs.Hits.{IsHit}
use Rattle.mk_walk.specs.Walk.{IsWalk, SameFrom, lists_left, place_of}
use Rattle.mk_walk.proofs.walk.Walk.turn.Given as goal

abbrev pub invariant-turn : goal.invariant-turn
invariant-turn l =
    IsWalk l.graph l.mol l.self.images.items l.self.levels.items l.self.depth
    × SameFrom (IsHit l.graph l.mol) (place_of l.fn.self.images.items l.fn.self.depth l.fn.self.above) (place_of l.self.images.items l.self.depth l.self.above)
    × (IsBelow (place_of l.self.images.items l.self.depth l.self.above) (place_of l.fn.self.images.items l.fn.self.depth l.fn.self.above) → ⊥)
    × (lists_left l.graph l.mol l.self.images.items l.self.depth l.self.above ≤ lists_left l.graph l.mol l.fn.self.images.items l.fn.self.depth l.fn.self.above)

abbrev pub decreases-turn : goal.decreases-turn
decreases-turn l = lists_left l.graph l.mol l.self.images.items l.self.depth l.self.above
