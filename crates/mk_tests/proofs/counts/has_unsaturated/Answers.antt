use Rattle.std.proofs.Common.{◌∙◌, rules}
use Rattle.mk_model.specs.Fitting.{passes_at}
use Rattle.mk_model.specs.Molecules.{edge_of}
use Rattle.mk_model.specs.Tests.{is_unsaturated}
use Rattle.mk_tests.proofs.NumberLemmas.{any-numbers}
use Rattle.mk_tests.proofs.counts.has_unsaturated.Goals as goal

pub returns : goal.returns
returns c =
    c.any_passing.ensures (λ number. passes_at (λ bond. is_unsaturated bond) c.args.mol.now.bonds number) (λ number yes is. search rules)
    ∙ rw c.bonds_at.ensures.numbers (any-numbers edge_of (λ bond. is_unsaturated bond) c.args.mol.now.bonds c.args.m)
