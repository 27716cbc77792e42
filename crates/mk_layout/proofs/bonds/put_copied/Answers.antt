use Rattle.std.proofs.Common.{sym}
use Rattle.std.proofs.lemmas.List.{append-nil}
use Rattle.mk_layout.proofs.BondLemmas.{copied_none, copied_more, grown}
use Rattle.mk_layout.proofs.bonds.put_copied.Goals as goal

pub loop-j-init : goal.loop-j-init
loop-j-init c = rw copied_none (sym (append-nil c.args.out.now.items))

pub loop-j-preserved : goal.loop-j-preserved
loop-j-preserved c =
    grown _ c.loop-j.out.items c.args.out.now.items _ _ _ (rw c.bond_between.ensures at c.in_ok-push.ensures.items) c.loop-j.invariant (copied_more c.args.bond c.args.x c.args.y c.loop-j.j)
