use Rattle.mk_pieces.proofs.HaveExpansionLemmas.{has_expansion}
use Rattle.mk_pieces.proofs.OneExpansionLemmas.{one_expansion}
use Rattle.mk_pieces.proofs.laws.one_expansion.Goals as goal

pub returns-clause-some : goal.returns-clause-some
returns-clause-some c = has_expansion c.bonds_have_marks.ensures.graphs

pub returns-clause-one : goal.returns-clause-one
returns-clause-one c = one_expansion c.marks_determine_bonds.ensures.graphs
