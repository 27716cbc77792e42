use Rattle.std.proofs.Common.{◌∙◌, arith}
use Rattle.mk_text.specs.Lines.{lines_of}
use Rattle.mk_sdfile.proofs.SdfileStepsLemmas.{molfile_ahead, block_answer}
use Rattle.mk_sdfile.proofs.sdfile.block_from.Goals as goal

pub kept_lines_between-requires-clause-order : goal.kept_lines_between-requires-clause-order
kept_lines_between-requires-clause-order c =
    let ahead = molfile_ahead (lines_of c.args.text.now) c.args.at.line c.in_ok-table.behind.line c.in_ok-table.table c.requires.counted c.in_ok-table.ensures.takes in
    let order = c.data_from-data.ensures.order in
    omega arith

pub returns : goal.returns
returns c = block_answer c.args.text.now c.args.at.line c.in_ok-table.behind c.in_ok-table.table c.data_from-data.result
    c.of.result c.requires.counted c.in_ok-table.ensures c.data_from-data.ensures (c.of.ensures ∙ c.in_ok-kept.ensures)
