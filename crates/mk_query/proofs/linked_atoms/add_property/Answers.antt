use Rattle.mk_query.proofs.linked_atoms.add_property.Goals as goal

pub returns-in-Link : goal.returns-in-Link
returns-in-Link c = rw c.in-Link.is (rw c.as_slice.ensures at c.add_links.ensures)
