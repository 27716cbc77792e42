use Rattle.std.proofs.Common.{◌∙◌, rules}
use Rattle.std.specs.Prelude.{not}
use Rattle.mk_model.specs.Fitting.{is_hydrogen, passes_at}
use Rattle.mk_model.specs.Edges.{other_end}
use Rattle.mk_model.specs.Molecules.{edge_of}
use Rattle.mk_tests.proofs.NumberLemmas.{count-numbers}
use Rattle.mk_tests.proofs.counts.count_others.Goals as goal

pub returns : goal.returns
returns c =
    c.count_passing.ensures (λ number. passes_at (λ bond. not (is_hydrogen c.args.mol.now.atoms (other_end c.args.m (edge_of bond)))) c.args.mol.now.bonds number) (λ number yes is. search rules)
    ∙ rw c.bonds_at.ensures.numbers (count-numbers edge_of (λ bond. not (is_hydrogen c.args.mol.now.atoms (other_end c.args.m (edge_of bond)))) c.args.mol.now.bonds c.args.m)
