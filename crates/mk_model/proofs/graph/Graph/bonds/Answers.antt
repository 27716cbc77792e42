use Rattle.std.proofs.Common.{◌∙◌, ap, subst}
use Rattle.mk_model.specs.Graphs.{GraphView, IsGraph}
use Rattle.mk_model.proofs.graph.Graph.bonds.Goals as goal

pub returns : goal.returns
returns c = record { list = c.as_slice.ensures.value ∙ ap (λ (g : GraphView). g.bonds) c.self.view_is; kept = subst IsGraph c.self.view_is c.self.invariant.holds }
