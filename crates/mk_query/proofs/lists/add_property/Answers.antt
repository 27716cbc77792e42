use Rattle.mk_query.specs.Drawn.{by_symbols}
use Rattle.mk_query.proofs.ListLemmas.{one_list}
use Rattle.mk_query.proofs.lists.add_property.Goals as goal

pub returns-in-List : goal.returns-in-List
returns-in-List c =
    let known = rw c.as_slice.ensures at c.are_symbols.ensures in
    one_list c.args.property.now c.in-List.list _ _ c.in-List.is (rw c.atom_of_symbols.ensures at (c.add_list.ensures (by_symbols c.in-List.list) known))
