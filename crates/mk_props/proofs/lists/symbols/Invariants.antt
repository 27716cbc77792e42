use Rattle.std.proofs.Common.{◌≡◌, ℕ, ◌-◌, Some}
use Rattle.mk_props.specs.Lists.{symbol_of}
use Rattle.mk_text.specs.Options.{entries_of}
use Rattle.mk_text.proofs.ForCallers.{read_behind}
use Rattle.mk_props.proofs.lists.symbols.Given as goal

abbrev pub invariant-loop-i : goal.invariant-loop-i
invariant-loop-i l =
    let entry = λ (i : ℕ). Some (symbol_of l.line i) in
    read_behind l.symbols (entries_of entry (l.count - l.i) l.i) ≡ entries_of entry l.count 0
