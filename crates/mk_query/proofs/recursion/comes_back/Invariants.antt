use Rattle.std.proofs.Common.{◌≡◌, false, take}
use Rattle.mk_query.specs.Recursion.{comes_back, entry}
use Rattle.mk_query.proofs.recursion.comes_back.Given as goal

abbrev pub invariant-loop-i : goal.invariant-loop-i
invariant-loop-i l = comes_back (entry l.leads) l.g (take l.i l.slots) ≡ false
