use Rattle.std.proofs.Common.{◌≡◌, ℕ, ◌-◌, ◌+◌, ◌*◌}
use Rattle.mk_text.specs.Options.{entries_of}
use Rattle.mk_props.specs.Reading.{pair_of}
use Rattle.mk_text.proofs.ForCallers.{read_behind}
use Rattle.mk_props.proofs.entries.pairs.Given as goal

abbrev pub invariant-loop-i : goal.invariant-loop-i
invariant-loop-i l =
    let entry = λ (i : ℕ). pair_of l.line (l.at + 3 + 8 * i) in
    read_behind l.pairs (entries_of entry (l.count - l.i) l.i) ≡ entries_of entry l.count 0
