use Rattle.std.proofs.Common.{◌≡◌, Some, map, take}
use Rattle.mk_words.specs.Commands.{numbers_in}
use Rattle.mk_words.proofs.command_parts.numbers_in.Given as goal

abbrev pub invariant-loop-word : goal.invariant-loop-word
invariant-loop-word l = numbers_in (map (λ word. word.now) (take l.word-index l.words)) ≡ Some l.numbers.items
