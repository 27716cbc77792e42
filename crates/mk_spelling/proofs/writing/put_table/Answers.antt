use Rattle.std.proofs.Common.{◌++◌, List, codes, sym, ap}
use Rattle.std.specs.List.{flat_map}
use Rattle.mk_props.specs.declared.property.Property.{Property}
use Rattle.mk_tables.specs.declared.raw.RawAtom.{RawAtom}
use Rattle.mk_tables.specs.declared.raw.RawBond.{RawBond}
use Rattle.mk_tables.specs.declared.raw.RawList.{RawList}
use Rattle.mk_text.specs.Lines.{ended}
use Rattle.mk_spelling.specs.TableSpelling.{counts_line, atom_line, bond_line, numbers_line, property_line, table_spelling}
use Rattle.mk_spelling.proofs.AppendLemmas.{as_text, as_last, table_last, spelling_parts}
use Rattle.mk_spelling.proofs.writing.put_table.Goals as goal

pub returns : goal.returns
returns c =
    let table = c.args.table.now in
    let old = c.args.out.now.items in
    let counted = c.put_counts.new.out.items in
    let placed = c.put_atoms.new.out.items in
    let bound = c.put_bonds.new.out.items in
    let listed = c.put_lists.new.out.items in
    let told = c.put_properties.new.out.items in
    let last = c.extend_from_slice.new.self.items in
    let counts = ended (counts_line table) in
    let atoms = flat_map (λ (atom : RawAtom). ended (atom_line atom)) table.atoms in
    let bonds = flat_map (λ (bond : RawBond). ended (bond_line bond)) table.bonds in
    let lists = flat_map (λ (list : RawList). ended (numbers_line list)) table.lists in
    let properties = flat_map (λ (property : Property). ended (property_line property)) table.props in
    as_last c.extend_from_slice.result old last (counts ++ (atoms ++ (bonds ++ (lists ++ (properties ++ codes "M  END\n"))))) (table_spelling table) (sym (spelling_parts table))
    (table_last c.extend_from_slice.result old counted placed bound listed told last counts atoms bonds lists properties (codes "M  END\n") c.in_ok-put_counts.ensures
    (as_text counted placed (flat_map (λ (atom : RawAtom). ended (atom_line atom)) c.as_slice.result.now) atoms
    (ap (λ (xs : List RawAtom). flat_map (λ (atom : RawAtom). ended (atom_line atom)) xs) c.as_slice.ensures)
    c.in_ok-put_atoms.ensures)
    (as_text placed bound (flat_map (λ (bond : RawBond). ended (bond_line bond)) c.as_slice-2.result.now) bonds
    (ap (λ (xs : List RawBond). flat_map (λ (bond : RawBond). ended (bond_line bond)) xs) c.as_slice-2.ensures)
    c.in_ok-put_bonds.ensures)
    (as_text bound listed (flat_map (λ (list : RawList). ended (numbers_line list)) c.as_slice-3.result.now) lists
    (ap (λ (xs : List RawList). flat_map (λ (list : RawList). ended (numbers_line list)) xs) c.as_slice-3.ensures)
    c.in_ok-put_lists.ensures)
    (as_text listed told (flat_map (λ (property : Property). ended (property_line property)) c.as_slice-4.result.now) properties
    (ap (λ (xs : List Property). flat_map (λ (property : Property). ended (property_line property)) xs) c.as_slice-4.ensures) c.in_ok-put_properties.ensures)
    c.extend_from_slice.ensures.items)
