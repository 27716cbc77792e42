use Rattle.std.proofs.Common.{◌≡◌}
use Rattle.std.specs.List.{range_with_len}
use Rattle.mk_query.specs.Compiled.{slots_at}
use Rattle.mk_query.proofs.template_slots.table_slots.Given as goal

abbrev pub invariant-loop-i : goal.invariant-loop-i
invariant-loop-i l = l.slots.items ≡ slots_at l.notes.table.now (range_with_len 1 l.i)
