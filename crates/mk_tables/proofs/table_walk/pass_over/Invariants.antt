use Rattle.std.proofs.Common.{◌≡◌, ◌+◌}
use Rattle.mk_text.specs.LineStart.{IsLineStart}
use Rattle.mk_tables.proofs.table_walk.pass_over.Given as goal

abbrev pub invariant-loop-i : goal.invariant-loop-i
invariant-loop-i l = record { start : IsLineStart l.text l.at; past : l.at.line ≡ l.fn.from.line + l.i }
