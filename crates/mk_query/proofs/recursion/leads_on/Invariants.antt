use Rattle.std.proofs.Common.{◌≡◌, false, take}
use Rattle.mk_query.specs.Recursion.{entry, label_leads}
use Rattle.mk_query.proofs.recursion.leads_on.Given as goal

abbrev pub invariant-loop-i : goal.invariant-loop-i
invariant-loop-i l = label_leads (entry l.leads) l.g (take l.i l.labels) ≡ false
