use Rattle.std.proofs.Common.{◌+◌, ◌*◌}
use Rattle.mk_rings.proofs.ring_search.+search.Given as goal

abbrev pub decreases-ring_along : goal.decreases-ring_along
decreases-ring_along l = 2 * l.left + 1

abbrev pub decreases-ring_over : goal.decreases-ring_over
decreases-ring_over l = 2 * l.left
