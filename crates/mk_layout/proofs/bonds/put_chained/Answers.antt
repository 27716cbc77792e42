use Rattle.std.proofs.Common.{sym}
use Rattle.std.proofs.lemmas.List.{append-nil}
use Rattle.mk_layout.proofs.BondLemmas.{chained_none, chained_more, grown}
use Rattle.mk_layout.proofs.bonds.put_chained.Goals as goal

pub loop-j-init : goal.loop-j-init
loop-j-init c = rw chained_none (sym (append-nil c.args.out.now.items))

pub loop-j-preserved : goal.loop-j-preserved
loop-j-preserved c =
    grown _ c.loop-j.out.items c.args.out.now.items _ _ _ c.in_ok-push.ensures.items c.loop-j.invariant (chained_more c.args.bond c.args.before c.loop-j.j)
