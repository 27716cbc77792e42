use Rattle.std.proofs.Common.{◌∙◌, ap, sym}
use Rattle.std.specs.Prelude.{not}
use Rattle.mk_model.specs.Fitting.{is_drawn_hydrogen}
use Rattle.mk_model.specs.Edges.{other_end}
use Rattle.mk_model.specs.Graphs.{graph_edge}
use Rattle.mk_tests.proofs.NumberLemmas.{fails-at}
use Rattle.mk_tests.proofs.counts.leads_to_drawn_other.Goals as goal

pub returns : goal.returns
returns c = ap not c.leads_to_drawn_hydrogen.ensures ∙ sym
    (fails-at (λ bond. is_drawn_hydrogen c.args.graph.now.atoms (other_end c.args.x (graph_edge bond)))
    c.args.graph.now.bonds c.args.number c.requires.least c.requires.most)
