use Rattle.std.proofs.Common.{take, All}
use Rattle.mk_walk.specs.Hydrogens.{JoinsAt}
use Rattle.mk_walk.proofs.hydrogens.leads_to.Given as goal

abbrev pub invariant-loop-number : goal.invariant-loop-number
invariant-loop-number l = All (JoinsAt l.graph l.e l.host) (take l.number-index l.number-items)
