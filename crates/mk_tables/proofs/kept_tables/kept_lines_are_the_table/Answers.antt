use Rattle.mk_tables.proofs.KeptTablesLemmas.{whole_is_table, part_is_table}
use Rattle.mk_tables.proofs.kept_tables.kept_lines_are_the_table.Goals as goal

pub returns-clause-whole : goal.returns-clause-whole
returns-clause-whole c = whole_is_table

pub returns-clause-from_a_line : goal.returns-clause-from_a_line
returns-clause-from_a_line c = part_is_table
