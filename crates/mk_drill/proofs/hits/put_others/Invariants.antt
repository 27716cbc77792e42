use Rattle.std.proofs.Common.{◌-◌, ◌^◌, vec_len}
use Rattle.mk_drill.proofs.HitsLemmas.{AreListed}
use Rattle.mk_drill.proofs.hits.put_others.Given as goal

abbrev pub invariant-loop-from : goal.invariant-loop-from
invariant-loop-from g l = AreListed l.shelf.rows l.query l.initial.from l.initial.hits.items l.hits.items l.from

-- each page but the last has keys, and no `Vec` has so many items
abbrev pub decreases-loop-from : goal.decreases-loop-from
decreases-loop-from g l = 2 ^ 64 - vec_len l.hits
