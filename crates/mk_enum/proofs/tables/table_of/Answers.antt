use Rattle.mk_enum.proofs.EntryLemmas.{ends_few}
use Rattle.mk_enum.proofs.tables.table_of.Goals as goal

pub bond_lines-requires : goal.bond_lines-requires
bond_lines-requires c = rw c.bonds.ensures.list (ends_few c.args.graph.now c.bonds.ensures.kept)
