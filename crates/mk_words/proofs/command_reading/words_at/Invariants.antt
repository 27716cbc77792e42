use Rattle.std.proofs.Common.{◌≡◌, take}
use Rattle.mk_text.specs.Spans.{parts}
use Rattle.mk_words.proofs.command_reading.words_at.Given as goal

abbrev pub invariant-loop-span : goal.invariant-loop-span
invariant-loop-span l = l.list.items ≡ parts l.line (take l.span-index l.spans)
