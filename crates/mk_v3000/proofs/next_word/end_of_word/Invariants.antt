use Rattle.std.proofs.Common.{◌≡◌, ◌≤◌, ◌-◌, true, not, eqb, length}
use Rattle.std.specs.Prelude.{slice_range}
use Rattle.std.specs.List.{list_all}
use Rattle.mk_v3000.proofs.next_word.end_of_word.Given as goal

abbrev pub invariant-loop-end : goal.invariant-loop-end
invariant-loop-end l = record { order : l.fn.start ≤ l.end; within : l.end ≤ length l.text; none : list_all (λ c. not (eqb c 32)) (slice_range l.text l.fn.start l.end) ≡ true }

abbrev pub decreases-loop-end : goal.decreases-loop-end
decreases-loop-end l = length l.text - l.end
