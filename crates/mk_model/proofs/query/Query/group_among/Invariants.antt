use Rattle.std.proofs.Common.{◌≡◌, ℕ, ◌<◌, false, get_or}
use Rattle.mk_model.specs.Labels.{is_member_of}
use Rattle.mk_model.proofs.query.Query.group_among.Given as goal

abbrev pub invariant-loop-g : goal.invariant-loop-g
invariant-loop-g l = (k : ℕ) → k < l.g-index → is_member_of l.self (get_or l.labels k 0) l.u ≡ false
