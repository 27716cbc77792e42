use Rattle.std.proofs.Common.{rules, ◌<◌, SFits, w8}
use Rattle.mk_enum.proofs.EntryLemmas.{same_flag, same_natural, same_small, six_pushed}
use Rattle.mk_enum.proofs.entries.push_entries.Goals as goal

pub returns : goal.returns
returns c =
    let test = c.args.test.now in
    let charge : SFits w8 test.charge = search rules in
    let radical : test.radical < 256 = search rules in
    let ring_bonds : SFits w8 test.ring_bonds = search rules in
    let substitution : SFits w8 test.substitution = search rules in
    let whole = six_pushed c.args.props.now _ _ _ _ _ _ _ _ _ _ _ _ c.in_ok-push_entry.ensures c.in_ok-push_entry-2.ensures c.in_ok-push_entry-3.ensures c.in_ok-push_entry-4.ensures
    c.in_ok-push_entry-5.ensures c.in_ok-push_list.ensures in
    rw (
      same_small test.charge c.from.result charge c.from.ensures,
      same_natural test.radical c.from-2.result radical c.from-2.ensures,
      same_small test.ring_bonds c.from-3.result ring_bonds c.from-3.ensures,
      same_small test.substitution c.from-4.result substitution c.from-4.ensures,
      same_flag test.unsaturated c.flag.result c.flag.ensures,
    ) at whole
