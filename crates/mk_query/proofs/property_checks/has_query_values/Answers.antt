use Rattle.mk_query.proofs.property_checks.has_query_values.Goals as goal

pub returns-in-Charge : goal.returns-in-Charge
returns-in-Charge c = rw c.in-Charge.is (rw c.as_slice.ensures at c.have_values.ensures)

pub returns-in-Radical : goal.returns-in-Radical
returns-in-Radical c = rw c.in-Radical.is (rw c.as_slice-in-Radical.ensures at c.have_values-in-Radical.ensures)

pub returns-in-RingBonds : goal.returns-in-RingBonds
returns-in-RingBonds c = rw c.in-RingBonds.is (rw c.as_slice-in-RingBonds.ensures at c.are_ring_bond_counts.ensures)

pub returns-in-Substitution : goal.returns-in-Substitution
returns-in-Substitution c = rw c.in-Substitution.is (rw c.as_slice-in-Substitution.ensures at c.have_values-in-Substitution.ensures)

pub returns-in-Unsaturation : goal.returns-in-Unsaturation
returns-in-Unsaturation c = rw c.in-Unsaturation.is (rw c.as_slice-in-Unsaturation.ensures at c.have_values-in-Unsaturation.ensures)

pub returns-in-Label : goal.returns-in-Label
returns-in-Label c = rw c.in-Label.is (rw c.as_slice-in-Label.ensures at c.have_values-in-Label.ensures)

pub returns-in-Points : goal.returns-in-Points
returns-in-Points c = rw c.in-Points.is (rw c.as_slice-in-Points.ensures at c.have_values-in-Points.ensures)
