use Rattle.std.proofs.Common.{◌-◌, arith}
use Rattle.mk_model.proofs.PlaceLemmas.{at_place, drawn_between}
use Rattle.mk_model.proofs.graph.Graph.bond.Goals as goal

pub returns-clause-bond : goal.returns-clause-bond
returns-clause-bond c = rw c.bonds.ensures.list (at_place c.args.self.now.bonds (c.args.n - 1) _ (omega arith))

pub returns-clause-ends : goal.returns-clause-ends
returns-clause-ends c = rw c.bonds.ensures.list (drawn_between c.args.self.now c.bonds.ensures.kept (c.args.n - 1) _ (omega arith))

pub returns-clause-order : goal.returns-clause-order
returns-clause-order c = rw c.bonds.ensures.list (c.bonds.ensures.kept.sketch.lower_first (c.args.n - 1) _ (omega arith))
