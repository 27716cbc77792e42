use Rattle.std.proofs.Common.{◌≡◌, ◌≤◌, ◌++◌, ◌-◌, length, replicate}
use Rattle.mk_spelling.proofs.writing_columns.put_left.Given as goal

abbrev pub invariant-loop-i : goal.invariant-loop-i
invariant-loop-i l = (l.out.items ≡ l.initial.out.items ++ replicate (l.i - length l.text) 32) × (l.i - length l.text ≤ l.width - length l.text)
