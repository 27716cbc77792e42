use Rattle.std.proofs.Common.{◌≡◌, ℕ, ◌-◌, ◌+◌, ◌*◌}
use Rattle.mk_text.specs.Fields.{field_of}
use Rattle.mk_text.specs.Options.{entries_of}
use Rattle.mk_text.proofs.ForCallers.{read_behind}
use Rattle.mk_tables.proofs.table_lines.list_numbers.Given as goal

abbrev pub invariant-loop-i : goal.invariant-loop-i
invariant-loop-i l =
    let entry = λ (i : ℕ). field_of l.line (12 + 4 * i) (14 + 4 * i) in
    read_behind l.numbers.items (entries_of entry (l.count - l.i) l.i) ≡ entries_of entry l.count 0
