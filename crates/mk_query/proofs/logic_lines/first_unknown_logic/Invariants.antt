use Rattle.std.proofs.Common.{ℕ, ◌<◌, ◌+◌}
use Rattle.mk_query.specs.LogicSearch.{HasLogicIn}
use Rattle.mk_query.proofs.logic_lines.first_unknown_logic.Given as goal

abbrev pub invariant-loop-i : goal.invariant-loop-i
invariant-loop-i l = (j : ℕ) → j < l.i + 1 → HasLogicIn l.is_root l.props j
