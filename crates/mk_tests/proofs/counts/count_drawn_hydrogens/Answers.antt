use Rattle.std.proofs.Common.{◌∙◌, rules}
use Rattle.mk_model.specs.Fitting.{is_drawn_hydrogen, passes_at}
use Rattle.mk_model.specs.Edges.{other_end}
use Rattle.mk_model.specs.Graphs.{graph_edge}
use Rattle.mk_tests.proofs.NumberLemmas.{count-numbers}
use Rattle.mk_tests.proofs.counts.count_drawn_hydrogens.Goals as goal

pub returns : goal.returns
returns c =
    c.count_passing.ensures (λ number. passes_at (λ bond. is_drawn_hydrogen c.args.graph.now.atoms
    (other_end c.args.x (graph_edge bond))) c.args.graph.now.bonds number) (λ number yes is. search rules)
    ∙ rw c.bonds_at.ensures.numbers (count-numbers graph_edge (λ bond. is_drawn_hydrogen c.args.graph.now.atoms (other_end c.args.x (graph_edge bond))) c.args.graph.now.bonds c.args.x)
