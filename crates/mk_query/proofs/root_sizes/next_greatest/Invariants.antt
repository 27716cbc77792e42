use Rattle.std.proofs.Common.{◌≡◌, ◌≤◌, ◌<◌, ◌+◌, ℕ, length}
use Rattle.std.specs.Prelude.{slice_index_or}
use Rattle.mk_model.specs.Queries.{members_of}
use Rattle.mk_model.specs.Sizes.{greatest}
use Rattle.mk_query.specs.RootSizes.{size_by_lists}
use Rattle.mk_query.proofs.root_sizes.next_greatest.Given as goal

abbrev pub invariant-loop-g : goal.invariant-loop-g
invariant-loop-g l =
    record {
      size : length l.next.items ≡ l.g;
      few : l.g ≤ 32;
      each : (g : ℕ) → g < l.g → slice_index_or l.next.items g 0 ≡ greatest (size_by_lists l.draft l.own l.of_groups) (members_of l.draft (g + 1));
    }
