use Rattle.mk_query.proofs.LogicLemmas.{range_found}
use Rattle.mk_query.proofs.logic_lines.has_range.Goals as goal

pub returns : goal.returns
returns c = rw c.as_slice.ensures at (range_found c.as_slice.result.now c.in_ok-range.range _ c.is_some.ensures c.in_ok-range.ensures.range c.in_ok-range.ensures.none)
