use Rattle.std.proofs.Common.{◌≡◌, ◌<◌, ◌≤◌, ◌||◌, ℕ, false, length}
use Rattle.std.specs.Prelude.{slice_index_or}
use Rattle.mk_query.proofs.own_sizes.put.Given as goal

abbrev pub invariant-loop-x : goal.invariant-loop-x
invariant-loop-x l =
    record {
      size : length l.taken.items ≡ length l.by;
      done : (x : ℕ) → x < l.x → slice_index_or l.taken.items x false ≡ (slice_index_or l.initial.taken.items x false || slice_index_or l.by x false);
      left : (x : ℕ) → l.x ≤ x → slice_index_or l.taken.items x false ≡ slice_index_or l.initial.taken.items x false;
    }
