use Rattle.std.proofs.Common.{ℕ, ◌<◌}
use Rattle.mk_demands.specs.BondSearch.{IsNewAt}
use Rattle.mk_demands.proofs.bonds.first_pair_twice.Given as goal

abbrev pub invariant-loop-b : goal.invariant-loop-b
invariant-loop-b l = (k : ℕ) → k < l.b → IsNewAt l.edges k
