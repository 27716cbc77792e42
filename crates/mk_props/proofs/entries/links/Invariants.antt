use Rattle.std.proofs.Common.{◌≡◌, ℕ, ◌-◌, ◌+◌, ◌*◌}
use Rattle.mk_text.specs.Options.{entries_of}
use Rattle.mk_props.specs.Reading.{link_of}
use Rattle.mk_text.proofs.ForCallers.{read_behind}
use Rattle.mk_props.proofs.entries.links.Given as goal

abbrev pub invariant-loop-i : goal.invariant-loop-i
invariant-loop-i l =
    let entry = λ (i : ℕ). link_of l.line (10 + 16 * i) in
    read_behind l.links (entries_of entry (l.count - l.i) l.i) ≡ entries_of entry l.count 0
