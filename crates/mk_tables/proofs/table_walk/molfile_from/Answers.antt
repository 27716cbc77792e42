use Rattle.std.proofs.Common.{drop}
use Rattle.std.proofs.lemmas.Result.{err_from_is_err_and}
use Rattle.mk_form.specs.Rows.{any_lines}
use Rattle.mk_text.specs.Lines.{lines_of}
use Rattle.mk_tables.specs.TableLaws.{table_form}
use Rattle.mk_tables.proofs.FaultLemmas.{block_read, block_fails}
use Rattle.mk_tables.proofs.MolfileLemmas.{molfile_is}
use Rattle.mk_tables.proofs.table_walk.molfile_from.Goals as goal

pub returns-in_err-behind : goal.returns-in_err-behind
returns-in_err-behind c =
    let lines = lines_of c.args.text.now in
    let fault = err_from_is_err_and c.from_residual.result c.from_residual.ensures.1 in
    rw (fault.1, fault.2) (block_fails (any_lines 3) (λ _. table_form) lines c.args.at.line (molfile_is (drop c.args.at.line lines)) c.in_err-behind.field-0.0 c.in_err-behind.ensures.value)

pub returns : goal.returns
returns c =
    let lines = lines_of c.args.text.now in
    let left = block_read (any_lines 3) (λ _. table_form) lines c.args.at.line (molfile_is (drop c.args.at.line lines)) c.in_ok-behind.behind.line tt c.in_ok-behind.ensures.value.takes in
    rw left c.table_from.ensures
