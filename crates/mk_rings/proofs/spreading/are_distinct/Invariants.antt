use Rattle.std.proofs.Common.{◌≢◌, ◌<◌, ℕ, get_or}
use Rattle.mk_rings.proofs.spreading.are_distinct.Given as goal

abbrev pub invariant-loop-i : goal.invariant-loop-i
invariant-loop-i l = (p q : ℕ) → p < l.i → q < p → get_or l.ring p 0 ≢ get_or l.ring q 0

abbrev pub invariant-loop-j : goal.invariant-loop-j
invariant-loop-j l = (q : ℕ) → q < l.j → get_or l.ring l.i 0 ≢ get_or l.ring q 0
