use Rattle.std.proofs.Common.{◌++◌, codes}
use Rattle.mk_spelling.specs.TableSpelling.{three, bond_line}
use Rattle.mk_spelling.proofs.AppendLemmas.{as_three, two_texts, four_texts, ended_last}
use Rattle.mk_spelling.proofs.writing_lines.put_bond.Goals as goal

pub returns : goal.returns
unfolding bond_line
returns c =
    let old = c.args.out.now.items in
    let one = c.put_three.new.out.items in
    let two = c.put_three-2.new.out.items in
    let typed = c.put_three-3.new.out.items in
    let plain = c.extend_from_slice.new.self.items in
    let last = c.put_three-4.new.out.items in
    let first = three c.args.bond.now.first in
    let second = three c.args.bond.now.second in
    let kind = three c.args.bond.now.kind in
    let topology = three c.args.bond.now.topology in
    let others = second ++ (kind ++ (codes "  0  0" ++ topology)) in
    ended_last c.extend_from_slice-2.result old last c.extend_from_slice-2.new.self.items (first ++ others) c.extend_from_slice-2.ensures.items
    (two_texts old one last first others (as_three old one c.args.bond.now.first c.requires.first c.in_ok-put_three.ensures)
    (four_texts one two typed plain last second kind (codes "  0  0") topology
    (as_three one two c.args.bond.now.second c.requires.second c.in_ok-put_three-2.ensures)
    (as_three two typed c.args.bond.now.kind c.requires.kind c.in_ok-put_three-3.ensures)
    c.in_ok-extend_from_slice.ensures.items
    (as_three plain last c.args.bond.now.topology c.requires.topology c.in_ok-put_three-4.ensures)))
