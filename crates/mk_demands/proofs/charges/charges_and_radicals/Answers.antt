use Rattle.std.proofs.Common.{◌≡◌, ◌∙◌, ap, length, arith}
use Rattle.mk_demands.specs.Charges.{charge_pairs, lists_values, radical_pairs}
use Rattle.mk_demands.specs.ChargePutting.{AreOfLines, ArePut}
use Rattle.mk_demands.proofs.ChargeLemmas.{are_electrons, put_back}
use Rattle.mk_demands.proofs.charges.charges_and_radicals.Goals as goal

pub put_values-requires-clause-for_atoms : goal.put_values-requires-clause-for_atoms
put_values-requires-clause-for_atoms c =
    let size : length c.deref_mut.result.now ≡ length c.args.table.now.atoms = ap length c.deref_mut.ensures.value ∙ c.in_ok-list.ensures.lines.size ∙ ap length c.as_slice.ensures in
    rw (size, c.as_slice-props.ensures) c.requires.for_atoms

pub put_values-requires-clause-values : goal.put_values-requires-clause-values
put_values-requires-clause-values c = rw c.as_slice-props.ensures c.requires.values

pub returns-clause-are : goal.returns-clause-are
returns-clause-are c =
    let lines : AreOfLines c.lists_values.result c.args.table.now.atoms c.in_ok-list.list.items = rw c.as_slice.ensures at c.in_ok-list.ensures.lines in
    let put : ArePut (charge_pairs c.args.table.now.props) (radical_pairs c.args.table.now.props) c.in_ok-list.list.items c.put_values.new.list =
    rw (c.as_slice-props.ensures, c.deref_mut.ensures.value) at c.put_values.ensures.put in
    let listed : c.lists_values.result ≡ lists_values c.args.table.now.props = rw c.as_slice-props.ensures at c.lists_values.ensures in
    rw (put_back c.in_ok-list.list.len c.put_values.new.list c.in_ok-list.list.items (omega (arith, put.size, c.in_ok-list.list.ok.0)))
    (are_electrons c.lists_values.result c.args.table.now c.in_ok-list.list.items c.put_values.new.list listed lines put)
