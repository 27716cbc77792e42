use Rattle.std.proofs.Common.{◌≤◌, length, arith}
use Rattle.mk_text.specs.Lines.{lines_of}
use Rattle.mk_text.proofs.ForCallers.{lines_few}
use Rattle.mk_query.proofs.ForCallers.{few_by_lines, in_range}
use Rattle.mk_kept.proofs.QueryTextLemmas.{said_if}
use Rattle.mk_kept.proofs.query_text.query_of.Goals as goal
use Rattle.mk_kept.proofs.query_text.query_of.Goals.{In-Ok}

few : (c : In-Ok) → length (lines_of c.args.text.now) ≤ 4294967296
few c = omega (arith, lines_few c.args.text.now, c.requires)

pub query_of_raw-requires-clause-in_range : goal.query_of_raw-requires-clause-in_range
query_of_raw-requires-clause-in_range c = in_range c.in-Ok.raw c.in-Ok.ensures.keeps

pub query_of_raw-requires-clause-few_members : goal.query_of_raw-requires-clause-few_members
query_of_raw-requires-clause-few_members c = (few_by_lines (length (lines_of c.args.text.now)) c.in-Ok.raw (few (goal.at.query_of_raw-requires-clause-few_members c).In-Ok) c.in-Ok.ensures.fits).1

pub query_of_raw-requires-clause-few_properties : goal.query_of_raw-requires-clause-few_properties
query_of_raw-requires-clause-few_properties c = (few_by_lines (length (lines_of c.args.text.now)) c.in-Ok.raw
    (few (goal.at.query_of_raw-requires-clause-few_properties c).In-Ok) c.in-Ok.ensures.fits).0

pub returns-in-Ok : goal.returns-in-Ok
returns-in-Ok c = said_if c.args.text.now c.in-Ok.raw c.query_of_raw.result c.in-Ok.ensures.query c.query_of_raw.ensures
