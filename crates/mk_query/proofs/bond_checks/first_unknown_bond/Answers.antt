use Rattle.mk_text.specs.Items.{FindsLeast}
use Rattle.mk_demands.specs.Bonds.{IsNewBondAt}
use Rattle.mk_query.proofs.BondLemmas.{query_bonds}
use Rattle.mk_query.proofs.bond_checks.first_unknown_bond.Goals as goal

pub returns : goal.returns
returns c =
    let new : FindsLeast (IsNewBondAt c.args.atoms c.args.bonds.now) c.first_no_new_bond-not_new.result = rw (c.in_ok-near.ensures.size) at c.first_no_new_bond-not_new.ensures in
    rw (c.least_of-2.ensures, c.least_of.ensures) (query_bonds c.args.atoms c.args.bonds.now _ _ _ new c.first_unknown_type.ensures c.in_ok-crowding.ensures)
