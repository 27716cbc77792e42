use Rattle.std.proofs.Common.{◌≡◌}
use Rattle.mk_query.proofs.LabelMarkLemmas.{groups_to}
use Rattle.mk_query.proofs.template_slots.groups_in.Given as goal

abbrev pub invariant-loop-i : goal.invariant-loop-i
invariant-loop-i l = l.numbers.items ≡ groups_to l.groups l.i
