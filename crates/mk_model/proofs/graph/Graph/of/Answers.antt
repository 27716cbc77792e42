use Rattle.std.proofs.Common.{ap, length, arith}
use Rattle.std.proofs.lemmas.List.{length-map}
use Rattle.mk_model.specs.Graphs.{graph_edge}
use Rattle.mk_model.proofs.GraphsLemmas.{few_bonds}
use Rattle.mk_model.proofs.graph.Graph.of.Goals as goal

pub of-requires-clause-few : goal.of-requires-clause-few
of-requires-clause-few c =
    omega (arith, few_bonds _ c.requires.sketch, length-map c.as_slice.result.now graph_edge, ap length c.in_ok-edges.ensures, ap length c.as_slice.ensures.value, ap length c.as_slice-2.ensures.value)
