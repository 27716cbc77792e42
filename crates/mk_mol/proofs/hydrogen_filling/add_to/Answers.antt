use Rattle.std.proofs.Common.{arith}
use Rattle.mk_mol.proofs.HydrogenLemmas.{hydrogens-more, bonds-more, next_number}
use Rattle.mk_mol.proofs.hydrogen_filling.add_to.Goals as goal

pub loop-preserved : goal.loop-preserved
loop-preserved c =
    let atoms = hydrogens-more c.args.atoms.now.items c.loop.atoms.items c.push.new.self.items c.loop.counter c.loop.invariant.0 c.in_ok-push.ensures.items in (
      atoms,
      bonds-more c.args.edges.now.items c.loop.edges.items _ _ c.loop.counter c.args.owner _ c.loop.invariant.1
          (next_number c.args.atoms.now.items c.push.new.self.items c.loop.counter _ atoms (omega (arith, c.len.ensures, c.push.new.self.ok.0)))
          c.in_ok-push-2.ensures.items,
    )
