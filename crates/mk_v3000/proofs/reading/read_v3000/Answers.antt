use Rattle.std.proofs.Common.{ℕ}
use Rattle.mk_text.specs.Lines.{lines_of}
use Rattle.mk_text.proofs.ForCallers.{line_there}
use Rattle.mk_tables.proofs.ForCallers.{part_by, bad_from_by, named_from_by}
use Rattle.mk_v3000.proofs.FactLemmas.{keeps_by, few_by}
use Rattle.mk_v3000.proofs.LawLemmas.{never_named}
use Rattle.mk_v3000.proofs.LiveLemmas.{exact-v3000}
use Rattle.mk_v3000.proofs.reading.read_v3000.Goals as goal

pub returns-clause-table : goal.returns-clause-table
returns-clause-table c = part_by exact-v3000 (lines_of c.args.text.now) c.args.at
    (line_there c.args.text.now c.args.lines.now c.args.at c.requires.lines c.requires.there) c.v3000_of_line.result
    c.v3000_of_line.ensures

pub returns-clause-bad : goal.returns-clause-bad
returns-clause-bad c = bad_from_by exact-v3000 (lines_of c.args.text.now) c.args.at
    (line_there c.args.text.now c.args.lines.now c.args.at c.requires.lines c.requires.there) c.v3000_of_line.result
    c.v3000_of_line.ensures

pub returns-clause-unnamed : goal.returns-clause-unnamed
returns-clause-unnamed c =
    never_named (lines_of c.args.text.now) c.args.at c.v3000_of_line.result
    (named_from_by exact-v3000 (lines_of c.args.text.now) c.args.at
    (line_there c.args.text.now c.args.lines.now c.args.at c.requires.lines c.requires.there) c.v3000_of_line.result
    c.v3000_of_line.ensures)

pub returns-clause-keeps : goal.returns-clause-keeps
returns-clause-keeps c =
    keeps_by (lines_of c.args.text.now) c.args.at c.v3000_of_line.result
    (part_by exact-v3000 (lines_of c.args.text.now) c.args.at (line_there c.args.text.now c.args.lines.now c.args.at c.requires.lines c.requires.there) c.v3000_of_line.result c.v3000_of_line.ensures)

pub returns-clause-few : goal.returns-clause-few
returns-clause-few c =
    few_by (lines_of c.args.text.now) c.args.at c.v3000_of_line.result
    (part_by exact-v3000 (lines_of c.args.text.now) c.args.at (line_there c.args.text.now c.args.lines.now c.args.at c.requires.lines c.requires.there) c.v3000_of_line.result c.v3000_of_line.ensures)
