use Rattle.mk_text.specs.Lines.{lines_of}
use Rattle.mk_tables.proofs.ForCallers.{text_by, bad_by, unnamed_by, v3000_by, named_by}
use Rattle.mk_rgfile.proofs.QueryFileLemmas.{exact-query_file}
use Rattle.mk_rgfile.proofs.QueryFactLemmas.{keeps_by, fits_by}
use Rattle.mk_rgfile.proofs.QueryReadingLemmas.{are_lines}
use Rattle.mk_rgfile.proofs.query_reading.read_rgfile.Goals as goal

pub returns-clause-query : goal.returns-clause-query
returns-clause-query c = text_by exact-query_file (lines_of c.args.text.now) c.query_of.result c.query_of.ensures

pub returns-clause-bad : goal.returns-clause-bad
returns-clause-bad c = bad_by exact-query_file (lines_of c.args.text.now) c.query_of.result c.query_of.ensures

pub returns-clause-unnamed : goal.returns-clause-unnamed
returns-clause-unnamed c = unnamed_by exact-query_file (lines_of c.args.text.now) c.query_of.result c.query_of.ensures

pub returns-clause-v3000 : goal.returns-clause-v3000
returns-clause-v3000 c = v3000_by exact-query_file (lines_of c.args.text.now) c.query_of.result c.query_of.ensures

pub returns-clause-named : goal.returns-clause-named
returns-clause-named c = named_by exact-query_file (lines_of c.args.text.now) c.query_of.result c.query_of.ensures

pub returns-clause-keeps : goal.returns-clause-keeps
returns-clause-keeps c = keeps_by (lines_of c.args.text.now) c.query_of.result (text_by exact-query_file (lines_of c.args.text.now) c.query_of.result c.query_of.ensures)

pub returns-clause-fits : goal.returns-clause-fits
returns-clause-fits c = fits_by (lines_of c.args.text.now) c.query_of.result (text_by exact-query_file (lines_of c.args.text.now) c.query_of.result c.query_of.ensures)

pub query_of-requires : goal.query_of-requires
query_of-requires c =
    let found = c.in_ok-lines.ensures in
    rw c.deref.ensures.value (are_lines c.args.text.now c.in_ok-lines.lines.items found.lines found.within found.starts)
