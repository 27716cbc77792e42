use Rattle.mk_query.proofs.GroupLemmas.{blank_range, some_range}
use Rattle.mk_query.proofs.query_groups.plain_group.Goals as goal

pub unwrap-range-requires : goal.unwrap-range-requires
unwrap-range-requires c = some_range _ _ blank_range c.in_ok-read_range.ensures.none
