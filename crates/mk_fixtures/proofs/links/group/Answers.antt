use Rattle.std.proofs.Common.{refl}
use Rattle.mk_model.proofs.OnLiterals.{group, plain_group, range}
use Rattle.mk_fixtures.proofs.links.group.Goals as goal

pub returns : goal.returns
unfolding plain_group group range
returns c = rw (c.in_ok-push.ensures.ok, c.new-range.ensures) refl
