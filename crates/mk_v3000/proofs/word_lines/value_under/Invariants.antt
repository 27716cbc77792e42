use Rattle.std.proofs.Common.{◌≡◌, length}
use Rattle.std.specs.Prelude.{pos}
use Rattle.mk_text.specs.Lines.{words_of}
use Rattle.mk_v3000.specs.WordLines.{value_under}
use Rattle.mk_v3000.proofs.word_lines.value_under.Given as goal

abbrev pub invariant-loop-word : goal.invariant-loop-word
invariant-loop-word l = value_under l.name l.valence (pos 0) (words_of l.fn.options) ≡ value_under l.name l.valence l.held (words_of l.rest)

abbrev pub decreases-loop-word : goal.decreases-loop-word
decreases-loop-word l = length l.rest
