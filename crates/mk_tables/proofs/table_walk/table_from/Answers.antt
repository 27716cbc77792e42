use Rattle.std.proofs.Common.{◌*◌, drop}
use Rattle.std.proofs.lemmas.Result.{err_from_is_err_and}
use Rattle.mk_form.specs.Lines.{line, counts_line}
use Rattle.mk_form.specs.Rows.{rows, any_lines}
use Rattle.mk_text.specs.Lines.{lines_of}
use Rattle.mk_tables.specs.TableLines.{is_v3000, counts_of, raw_atom_of, raw_bond_of, list_of}
use Rattle.mk_tables.specs.TableReading.{after_stext, after_lists, after_bonds, after_atoms, after_counts}
use Rattle.mk_tables.proofs.FaultLemmas.{block_fails}
use Rattle.mk_tables.proofs.StepLemmas.{whole_left, atoms_left, bonds_left, lists_left, stext_left, properties_fail_table, table_read}
use Rattle.mk_tables.proofs.table_walk.table_from.Goals as goal

pub returns-in_err-counts : goal.returns-in_err-counts
returns-in_err-counts c =
    let lines = lines_of c.args.text.now in
    let fault = err_from_is_err_and c.from_residual.result c.from_residual.ensures.1 in
    rw (fault.1, fault.2) (block_fails (counts_line is_v3000 counts_of) after_counts lines c.args.at.line (whole_left (drop c.args.at.line lines)) c.in_err-counts.field-0.0 c.in_err-counts.ensures)

pub returns-in_err-atoms : goal.returns-in_err-atoms
returns-in_err-atoms c =
    let lines = lines_of c.args.text.now in
    let n = c.in_ok-counts.counts in
    let fault = err_from_is_err_and c.from_residual-in_err-atoms.result c.from_residual-in_err-atoms.ensures.1 in
    let left = atoms_left lines c.args.at.line n c.in_ok-counts.ensures.takes in
    rw (fault.1, fault.2) (block_fails (rows n.atoms (line raw_atom_of)) (after_atoms n) lines c.in_ok-counts.next.line left c.in_err-atoms.field-0.0 c.in_err-atoms.ensures)

pub returns-in_err-bonds : goal.returns-in_err-bonds
returns-in_err-bonds c =
    let lines = lines_of c.args.text.now in
    let n = c.in_ok-counts.counts in
    let atoms = c.in_ok-atoms in
    let fault = err_from_is_err_and c.from_residual-in_err-bonds.result c.from_residual-in_err-bonds.ensures.1 in
    let left = bonds_left lines c.args.at.line n c.in_ok-counts.ensures.takes atoms.atoms atoms.next.line atoms.ensures.takes in
    rw (fault.1, fault.2) (block_fails (rows n.bonds (line raw_bond_of)) (after_bonds n atoms.atoms) lines atoms.next.line left c.in_err-bonds.field-0.0 c.in_err-bonds.ensures)

pub returns-in_err-lists : goal.returns-in_err-lists
returns-in_err-lists c =
    let lines = lines_of c.args.text.now in
    let n = c.in_ok-counts.counts in
    let atoms = c.in_ok-atoms in
    let bonds = c.in_ok-bonds in
    let fault = err_from_is_err_and c.from_residual-in_err-lists.result c.from_residual-in_err-lists.ensures.1 in
    let left = lists_left lines c.args.at.line n c.in_ok-counts.ensures.takes atoms.atoms atoms.next.line atoms.ensures.takes bonds.bonds bonds.next.line bonds.ensures.takes in
    rw (fault.1, fault.2) (block_fails (rows n.lists (line list_of)) (after_lists n atoms.atoms bonds.bonds) lines bonds.next.line left c.in_err-lists.field-0.0 c.in_err-lists.ensures)

pub returns-in_err-next : goal.returns-in_err-next
returns-in_err-next c =
    let lines = lines_of c.args.text.now in
    let n = c.in_ok-counts.counts in
    let atoms = c.in_ok-atoms in
    let bonds = c.in_ok-bonds in
    let lists = c.in_ok-lists in
    let fault = err_from_is_err_and c.from_residual-in_err-next.result c.from_residual-in_err-next.ensures.1 in
    let left = stext_left lines c.args.at.line n c.in_ok-counts.ensures.takes atoms.atoms atoms.next.line
    atoms.ensures.takes bonds.bonds bonds.next.line bonds.ensures.takes lists.lists lists.next.line
    lists.ensures.takes in
    rw (fault.1, fault.2) (block_fails (any_lines (2 * n.stext)) (λ _. after_stext atoms.atoms bonds.bonds lists.lists) lines lists.next.line left c.in_err-next.field-0.0 c.in_err-next.ensures.value)

pub returns-in_err-props : goal.returns-in_err-props
returns-in_err-props c =
    let lines = lines_of c.args.text.now in
    let n = c.in_ok-counts.counts in
    let atoms = c.in_ok-atoms in
    let bonds = c.in_ok-bonds in
    let lists = c.in_ok-lists in
    let fault = err_from_is_err_and c.from_residual-in_err-props.result c.from_residual-in_err-props.ensures.1 in
    rw (fault.1, fault.2) (properties_fail_table lines c.args.at.line n c.in_ok-counts.ensures.takes atoms.atoms
    atoms.next.line atoms.ensures.takes bonds.bonds bonds.next.line bonds.ensures.takes lists.lists lists.next.line
    lists.ensures.takes c.in_ok-next.next.line c.in_ok-next.ensures.value.takes c.in_err-props.field-0.0
    c.in_err-props.ensures)

pub returns : goal.returns
returns c =
    let lines = lines_of c.args.text.now in
    let n = c.in_ok-counts.counts in
    let atoms = c.in_ok-atoms in
    let bonds = c.in_ok-bonds in
    let lists = c.in_ok-lists in
    record {
      takes = table_read lines c.args.at.line n c.in_ok-counts.ensures.takes atoms.atoms atoms.next.line
          atoms.ensures.takes bonds.bonds bonds.next.line bonds.ensures.takes lists.lists lists.next.line
          lists.ensures.takes c.in_ok-next.next.line c.in_ok-next.ensures.value.takes c.in_ok-props.props
          c.in_ok-props.next.line c.in_ok-props.ensures.takes;
      start = c.in_ok-props.ensures.start;
    }
