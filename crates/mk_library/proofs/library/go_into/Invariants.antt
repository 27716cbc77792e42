use Rattle.std.proofs.Common.{◌≡◌, ◌+◌, drop}
use Rattle.mk_library.specs.Steps.{bytes_of}
use Rattle.mk_library.proofs.library.go_into.Given as goal

abbrev pub invariant-loop-text : goal.invariant-loop-text
invariant-loop-text l = l.most + bytes_of (drop l.text-index l.texts) ≡ l.left + bytes_of l.texts
