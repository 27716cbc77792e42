use Rattle.mk_query.proofs.property_checks.names_its_atoms.Goals as goal

pub returns-in-Charge : goal.returns-in-Charge
returns-in-Charge c = rw c.in-Charge.is (rw c.as_slice.ensures at c.are_for_atoms.ensures)

pub returns-in-Radical : goal.returns-in-Radical
returns-in-Radical c = rw c.in-Radical.is (rw c.as_slice-in-Radical.ensures at c.are_for_atoms-in-Radical.ensures)

pub returns-in-Isotope : goal.returns-in-Isotope
returns-in-Isotope c = rw c.in-Isotope.is (rw c.as_slice-in-Isotope.ensures at c.are_for_atoms-in-Isotope.ensures)

pub returns-in-RingBonds : goal.returns-in-RingBonds
returns-in-RingBonds c = rw c.in-RingBonds.is (rw c.as_slice-in-RingBonds.ensures at c.are_for_atoms-in-RingBonds.ensures)

pub returns-in-Substitution : goal.returns-in-Substitution
returns-in-Substitution c = rw c.in-Substitution.is (rw c.as_slice-in-Substitution.ensures at c.are_for_atoms-in-Substitution.ensures)

pub returns-in-Unsaturation : goal.returns-in-Unsaturation
returns-in-Unsaturation c = rw c.in-Unsaturation.is (rw c.as_slice-in-Unsaturation.ensures at c.are_for_atoms-in-Unsaturation.ensures)

pub returns-in-Label : goal.returns-in-Label
returns-in-Label c = rw c.in-Label.is (rw c.as_slice-in-Label.ensures at c.are_for_atoms-in-Label.ensures)

pub returns-in-Points : goal.returns-in-Points
returns-in-Points c = rw c.in-Points.is (rw c.as_slice-in-Points.ensures at c.are_for_atoms-in-Points.ensures)

pub returns-in-Link : goal.returns-in-Link
returns-in-Link c = rw c.in-Link.is (rw c.as_slice-in-Link.ensures at c.are_links_of.ensures)
