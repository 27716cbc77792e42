use Rattle.mk_query.proofs.GroupLemmas.{some_range}
use Rattle.mk_query.proofs.query_groups.spoken_group.Goals as goal

pub unwrap-range-requires : goal.unwrap-range-requires
unwrap-range-requires c = some_range c.args.logic.now.range _ c.requires.range (rw c.as_slice.ensures at c.in_ok-read_range.ensures.none)
