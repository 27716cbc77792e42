use Rattle.std.proofs.Common.{arith, length}
use Rattle.std.proofs.lemmas.List.{length-take-le}
use Rattle.mk_mol.proofs.HydrogenLemmas.{atoms-more, owned-more, first_number, still_few}
use Rattle.mk_mol.proofs.hydrogen_filling.add_each.Goals as goal

pub loop-i-preserved : goal.loop-i-preserved
loop-i-preserved c = (
  atoms-more c.args.atoms.now.items c.loop-i.atoms.items c.add_to.new.atoms.items c.args.gains.now c.loop-i.i c.loop-i-test.true c.loop-i.invariant.0 c.in_ok-add_to.ensures.atoms,
  owned-more c.args.edges.now.items c.loop-i.edges.items c.add_to.new.edges.items _ c.args.gains.now c.loop-i.i _ c.loop-i-test.true
      (length-take-le c.loop-i.i c.args.gains.now c.loop-i.auto.i-end) (first_number _ _ _ c.loop-i.invariant.0) c.loop-i.invariant.1 c.in_ok-add_to.ensures.edges,
  still_few _ _ (length c.args.atoms.now.items) c.loop-i.i _ c.in_ok-add_to.ensures.atoms (omega (arith, c.type_inv.gains c.loop-i.i)) c.loop-i.invariant.2,
)
