use Rattle.std.proofs.Common.{◌+◌, arith}
use Rattle.mk_search.proofs.StagesLemmas.{none_above, none_held}
use Rattle.mk_search.proofs.finding.following.Goals as goal

pub returns-in_default-clause-none : goal.returns-in_default-clause-none
returns-in_default-clause-none c = none_held c.args.shelf.now.rows (c.args.number + 1) c.in_default.ensures.none

pub returns-then-number-greatest-clause-none : goal.returns-then-number-greatest-clause-none
returns-then-number-greatest-clause-none c =
    none_above c.args.shelf.now.rows c.args.number c.in-Some.greatest c.in-Some.ensures.some (omega (arith, c.if-number-greatest.true))
