use Rattle.std.proofs.Common.{take}
use Rattle.mk_effects.specs.Hits.{AreHitLines}
use Rattle.mk_effects.proofs.hit_lines.lines_of.Given as goal

abbrev pub invariant-loop-key : goal.invariant-loop-key
invariant-loop-key l = AreHitLines l.query (take l.key-index l.keys) l.lines.items
