use Rattle.mk_library.proofs.RebuiltLemmas.{same_rows}
use Rattle.mk_library.proofs.rebuilding.have_same_molecules.Goals as goal

pub returns : goal.returns
returns c =
    let one = rw c.shelf.ensures.rows at c.shelf.ensures.held in
    let other = rw (c.requires, c.shelf-2.ensures.rows) at c.shelf-2.ensures.held in
    same_rows c.one_filled_molecule.ensures c.args.library.now.records c.args.other.now.rows c.args.library.now.rows other one
