use Rattle.std.proofs.Common.{◌≡◌, ◌≤◌, ◌+◌, ◌-◌, length}
use Rattle.mk_query.specs.BlockSearch.{IsReached, unreached}
use Rattle.mk_query.proofs.BlockSearchLemmas.{AreFollowed}
use Rattle.mk_query.proofs.blocks.block_of.Given as goal

abbrev pub invariant-loop-i : goal.invariant-loop-i
invariant-loop-i l = record {
  size : length l.reached.items ≡ l.bonded.atoms + 1;
  are : IsReached l.bonded.bonds.now l.link l.reached.items l.queue.items;
  within : l.i ≤ length l.queue.items;
  followed : AreFollowed l.bonded.bonds.now l.link l.reached.items l.queue.items l.i;
}

abbrev pub decreases-loop-i : goal.decreases-loop-i
decreases-loop-i l = unreached l.reached.items + (length l.queue.items - l.i)
