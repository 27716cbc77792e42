use Rattle.mk_query.specs.Drawn.{by_numbers}
use Rattle.mk_query.proofs.lists.add_numbers.Goals as goal

pub returns : goal.returns
returns c = rw c.atom_of_numbers.ensures at (c.add_list.ensures (by_numbers c.args.list.now) (rw c.as_slice.ensures at c.are_numbers.ensures))
