use Rattle.std.proofs.Common.{◌∙◌, ap, sym}
use Rattle.std.specs.Prelude.{not}
use Rattle.mk_model.specs.Fitting.{is_hydrogen}
use Rattle.mk_model.specs.Edges.{other_end}
use Rattle.mk_model.specs.Molecules.{edge_of}
use Rattle.mk_tests.proofs.NumberLemmas.{fails-at}
use Rattle.mk_tests.proofs.counts.leads_to_other.Goals as goal

pub returns : goal.returns
returns c = ap not c.leads_to_hydrogen.ensures ∙ sym (fails-at
    (λ bond. is_hydrogen c.args.mol.now.atoms (other_end c.args.m (edge_of bond))) c.args.mol.now.bonds c.args.number
    c.requires.least c.requires.most)
