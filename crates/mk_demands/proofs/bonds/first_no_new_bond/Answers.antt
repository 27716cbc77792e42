use Rattle.mk_demands.proofs.BondLemmas.{found_pair, found_ends, found_none}
use Rattle.mk_demands.proofs.bonds.first_no_new_bond.Goals as goal

pub returns-in-Some : goal.returns-in-Some
returns-in-Some c = found_pair _ _ _ c.requires.front _ c.in-Some.ensures

pub returns-then-edges-bonds : goal.returns-then-edges-bonds
returns-then-edges-bonds c = found_ends _ _ _ c.requires.front c.if-edges-bonds.true c.in_default.ensures

pub returns : goal.returns
returns c = found_none _ _ _ c.requires.front c.if-edges-bonds.false c.in_default.ensures
