use Rattle.mk_text.specs.Lines.{lines_of}
use Rattle.mk_tables.proofs.ForCallers.{text_by, bad_by, unnamed_by, v3000_by, named_by}
use Rattle.mk_sdfile.proofs.SdfileFactLemmas.{keeps_by, fewer_by, never_named}
use Rattle.mk_sdfile.proofs.SdfileLemmas.{exact-sdfile}
use Rattle.mk_sdfile.proofs.sdfile.read_sdfile.Goals as goal

pub returns-clause-sdfile : goal.returns-clause-sdfile
returns-clause-sdfile c = text_by exact-sdfile (lines_of c.args.text.now) c.records_from.result c.records_from.ensures

pub returns-clause-bad : goal.returns-clause-bad
returns-clause-bad c = bad_by exact-sdfile (lines_of c.args.text.now) c.records_from.result c.records_from.ensures

pub returns-clause-unnamed : goal.returns-clause-unnamed
returns-clause-unnamed c = unnamed_by exact-sdfile (lines_of c.args.text.now) c.records_from.result c.records_from.ensures

pub returns-clause-v3000 : goal.returns-clause-v3000
returns-clause-v3000 c = v3000_by exact-sdfile (lines_of c.args.text.now) c.records_from.result c.records_from.ensures

pub returns-clause-named : goal.returns-clause-named
returns-clause-named c = named_by exact-sdfile (lines_of c.args.text.now) c.records_from.result c.records_from.ensures

pub returns-clause-keeps : goal.returns-clause-keeps
returns-clause-keeps c = keeps_by (lines_of c.args.text.now) c.records_from.result (text_by exact-sdfile (lines_of c.args.text.now) c.records_from.result c.records_from.ensures)

pub returns-clause-fewer : goal.returns-clause-fewer
returns-clause-fewer c = fewer_by (lines_of c.args.text.now) c.records_from.result (text_by exact-sdfile (lines_of c.args.text.now) c.records_from.result c.records_from.ensures)

pub returns-clause-never : goal.returns-clause-never
returns-clause-never c = never_named (lines_of c.args.text.now) c.records_from.result (named_by exact-sdfile (lines_of c.args.text.now) c.records_from.result c.records_from.ensures)
