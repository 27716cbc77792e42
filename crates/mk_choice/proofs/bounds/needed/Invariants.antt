use Rattle.std.proofs.Common.{◌≤◌, ◌<◌, ◌+◌, ℕ, cond, min}
use Rattle.std.specs.Prelude.{◌==◌, slice_index}
use Rattle.mk_model.specs.Queries.{slots_of}
use Rattle.mk_choice.specs.Bounds.{bound_in, most_filled}
use Rattle.mk_choice.proofs.bounds.needed.Given as goal

abbrev pub invariant-loop-u : goal.invariant-loop-u
invariant-loop-u l = record {
  enough : (k : ℕ) → k < l.u-index → min 513 (cond (l.h + 1 == l.g + 1) 1 0 + most_filled (bound_in l.most) (slots_of l.query (slice_index l.u-items k)) (l.g + 1)) ≤ l.greatest;
  capped : l.greatest ≤ 513;
}
