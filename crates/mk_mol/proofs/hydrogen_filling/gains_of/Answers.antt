use Rattle.mk_mol.proofs.GainLemmas.{gains-none, gains-more, gains-all}
use Rattle.mk_mol.proofs.hydrogen_filling.gains_of.Goals as goal

pub loop-i-init : goal.loop-i-init
loop-i-init c = gains-none c.args.table.now c.args.atoms.now _ c.in_ok-gains.ensures.items

pub loop-i-preserved : goal.loop-i-preserved
loop-i-preserved c =
    rw c.in_ok-push.ensures.items
    (gains-more c.args.table.now c.args.atoms.now c.loop-i.i _ c.loop-i.gains.items _ c.loop-i-test.true c.gained_at.ensures c.loop-i.invariant)

pub returns : goal.returns
returns c = gains-all c.args.table.now c.args.atoms.now c.loop-i.i c.loop-i.gains.items c.requires.size c.loop-i-test.false c.loop-i.auto.i-end c.loop-i.invariant
