use Rattle.std.proofs.Common.{◌≡◌, eqb, length}
use Rattle.std.specs.List.{slice_split}
use Rattle.mk_text.proofs.ForCallers.{read_behind}
use Rattle.mk_logic.specs.RangeReading.{items_of, range_of}
use Rattle.mk_logic.proofs.range_texts.read_range.Given as goal

abbrev pub invariant-items : goal.invariant-items
invariant-items l = read_behind l.range (items_of (slice_split (λ b. eqb b 44) l.rest)) ≡ range_of l.text

abbrev pub decreases-items : goal.decreases-items
decreases-items l = length l.rest
