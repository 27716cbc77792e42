use Rattle.std.proofs.Common.{◌++◌, codes, ap}
use Rattle.mk_spelling.specs.TableSpelling.{three, at_left, atom_line}
use Rattle.mk_spelling.proofs.AppendLemmas.{as_three, two_texts, four_texts, as_text, ended_last}
use Rattle.mk_spelling.proofs.writing_lines.put_atom.Goals as goal

pub returns : goal.returns
unfolding atom_line
returns c =
    let old = c.args.out.now.items in
    let placed = c.extend_from_slice.new.self.items in
    let named = c.put_left.new.out.items in
    let weighed = c.extend_from_slice-2.new.self.items in
    let charged = c.put_three.new.out.items in
    let turned = c.extend_from_slice-3.new.self.items in
    let counted = c.put_three-2.new.out.items in
    let cared = c.extend_from_slice-4.new.self.items in
    let last = c.put_three-3.new.out.items in
    let symbol = at_left 3 c.args.atom.now.symbol in
    let charge = three c.args.atom.now.charge in
    let hydrogens = three c.args.atom.now.hydrogens in
    let valence = three c.args.atom.now.valence in
    let coordinates = codes "    0.0000    0.0000    0.0000 " in
    let from_hydrogens = hydrogens ++ (codes "  0" ++ valence) in
    let from_charge = charge ++ (codes "  0" ++ from_hydrogens) in
    ended_last c.extend_from_slice-5.result old last c.extend_from_slice-5.new.self.items (coordinates ++ (symbol ++ (codes " 0" ++ from_charge))) c.extend_from_slice-5.ensures.items
    (four_texts old placed named weighed last coordinates symbol (codes " 0") from_charge c.in_ok-extend_from_slice.ensures.items
    (as_text placed named (at_left 3 c.as_slice.result.now) symbol (ap (at_left 3) c.as_slice.ensures) c.in_ok-put_left.ensures)
    c.in_ok-extend_from_slice-2.ensures.items
    (two_texts weighed charged last charge (codes "  0" ++ from_hydrogens) (as_three weighed charged c.args.atom.now.charge c.requires.charge c.in_ok-put_three.ensures)
    (four_texts charged turned counted cared last (codes "  0") hydrogens (codes "  0") valence
    c.in_ok-extend_from_slice-3.ensures.items (as_three turned counted c.args.atom.now.hydrogens
    c.requires.hydrogens c.in_ok-put_three-2.ensures)
    c.in_ok-extend_from_slice-4.ensures.items (as_three cared last c.args.atom.now.valence c.requires.valence c.in_ok-put_three-3.ensures))))
