use Rattle.std.proofs.Common.{◌≡◌, ◌++◌, ◌+◌, length}
use Rattle.mk_library.specs.Edits.{puts_from}
use Rattle.mk_library.proofs.editing.puts_from.Given as goal

abbrev pub invariant-loop-text : goal.invariant-loop-text
invariant-loop-text l = record {
  changes : l.changes.items ++ puts_from l.number l.texts.rest.items ≡ puts_from l.first l.initial.texts.rest.items;
  number : l.number + length l.texts.rest.items ≡ l.first + length l.initial.texts.rest.items;
}

abbrev pub decreases-loop-text : goal.decreases-loop-text
decreases-loop-text l = length l.texts.rest.items
