use Rattle.mk_drill.proofs.QueryFaultLemmas.{only_memory}
use Rattle.mk_drill.proofs.drill_query.drill_query.Goals as goal

pub unread-requires : goal.unread-requires
unread-requires c = only_memory c.in-Err.fault (rw c.query_text-text.ensures at c.in-Err.ensures.bad) (rw c.query_text-text.ensures at c.in-Err.ensures.v3000)
