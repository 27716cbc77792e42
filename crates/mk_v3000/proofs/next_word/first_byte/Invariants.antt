use Rattle.std.proofs.Common.{◌≡◌, ◌≤◌, ◌-◌, drop, length}
use Rattle.mk_text.specs.Lines.{words_of}
use Rattle.mk_v3000.proofs.next_word.first_byte.Given as goal

abbrev pub invariant-loop-start : goal.invariant-loop-start
invariant-loop-start l = record { within : l.start ≤ length l.text; words : words_of (drop l.start l.text) ≡ words_of l.text }

abbrev pub decreases-loop-start : goal.decreases-loop-start
decreases-loop-start l = length l.text - l.start
