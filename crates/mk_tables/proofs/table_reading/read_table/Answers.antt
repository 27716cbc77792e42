use Rattle.mk_text.specs.Lines.{lines_of}
use Rattle.mk_text.proofs.ForCallers.{line_there}
use Rattle.mk_tables.proofs.FaultLemmas.{part_by, bad_from_by, unnamed_from_by, v3000_from_by, named_from_by}
use Rattle.mk_tables.proofs.TableFactLemmas.{keeps_by, fewer_by}
use Rattle.mk_tables.proofs.TableLemmas.{exact-table}
use Rattle.mk_tables.proofs.table_reading.read_table.Goals as goal

pub returns-clause-table : goal.returns-clause-table
returns-clause-table c = part_by exact-table (lines_of c.args.text.now) c.args.at
    (line_there c.args.text.now c.args.lines.now c.args.at c.requires.lines c.requires.there) c.table_of_line.result
    c.table_of_line.ensures

pub returns-clause-bad : goal.returns-clause-bad
returns-clause-bad c = bad_from_by exact-table (lines_of c.args.text.now) c.args.at
    (line_there c.args.text.now c.args.lines.now c.args.at c.requires.lines c.requires.there) c.table_of_line.result
    c.table_of_line.ensures

pub returns-clause-unnamed : goal.returns-clause-unnamed
returns-clause-unnamed c = unnamed_from_by exact-table (lines_of c.args.text.now) c.args.at
    (line_there c.args.text.now c.args.lines.now c.args.at c.requires.lines c.requires.there) c.table_of_line.result
    c.table_of_line.ensures

pub returns-clause-v3000 : goal.returns-clause-v3000
returns-clause-v3000 c = v3000_from_by exact-table (lines_of c.args.text.now) c.args.at
    (line_there c.args.text.now c.args.lines.now c.args.at c.requires.lines c.requires.there) c.table_of_line.result
    c.table_of_line.ensures

pub returns-clause-named : goal.returns-clause-named
returns-clause-named c = named_from_by exact-table (lines_of c.args.text.now) c.args.at
    (line_there c.args.text.now c.args.lines.now c.args.at c.requires.lines c.requires.there) c.table_of_line.result
    c.table_of_line.ensures

pub returns-clause-keeps : goal.returns-clause-keeps
returns-clause-keeps c =
    keeps_by (lines_of c.args.text.now) c.args.at c.table_of_line.result
    (part_by exact-table (lines_of c.args.text.now) c.args.at (line_there c.args.text.now c.args.lines.now c.args.at c.requires.lines c.requires.there) c.table_of_line.result c.table_of_line.ensures)

pub returns-clause-fewer : goal.returns-clause-fewer
returns-clause-fewer c =
    fewer_by (lines_of c.args.text.now) c.args.at c.table_of_line.result
    (part_by exact-table (lines_of c.args.text.now) c.args.at (line_there c.args.text.now c.args.lines.now c.args.at c.requires.lines c.requires.there) c.table_of_line.result c.table_of_line.ensures)
