use Rattle.std.proofs.Common.{◌≡◌, ◌-◌, ◌+◌, length, arith}
use Rattle.mk_model.specs.Edges.{AreBetween}
use Rattle.mk_rings.proofs.TreeLemmas.{IsForest-all}
use Rattle.mk_rings.proofs.forest.grow_all.Goals as goal

pub returns : goal.returns
returns c =
    let ends : AreBetween (length c.loop-top.nodes - 1) c.args.bonds.now = rw c.loop-top.auto.nodes c.requires.ends in
    let size : length c.loop-top.nodes ≡ length c.loop-top.nodes - 1 + 1 = omega (arith, c.loop-top.auto.nodes, c.requires.few.0) in
    IsForest-all (length c.loop-top.nodes - 1) c.args.bonds.now c.loop-top.nodes ends size c.loop-top.invariant.grown c.loop-top.invariant.done
    (λ x least most. c.loop-top.invariant.reached x least (omega (arith, c.loop-top-test.false, size)))
