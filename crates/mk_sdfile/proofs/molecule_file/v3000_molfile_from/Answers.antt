use Rattle.std.proofs.Common.{refl}
use Rattle.std.proofs.lemmas.Result.{err_from_is_err_and}
use Rattle.mk_form.specs.Rows.{any_lines}
use Rattle.mk_text.specs.Lines.{lines_of}
use Rattle.mk_tables.proofs.ForCallers.{block_read, block_fails}
use Rattle.mk_v3000.specs.V3000Form.{v3000_form}
use Rattle.mk_sdfile.proofs.molecule_file.v3000_molfile_from.Goals as goal

pub returns-in_err-behind : goal.returns-in_err-behind
returns-in_err-behind c =
    let lines = lines_of c.args.text.now in
    let fault = err_from_is_err_and c.from_residual.result c.from_residual.ensures.1 in
    rw (fault.1, fault.2) (block_fails (any_lines 3) (λ _. v3000_form) lines c.args.at.line refl c.in_err-behind.field-0.0 c.in_err-behind.ensures)

pub returns : goal.returns
returns c =
    let lines = lines_of c.args.text.now in
    let left = block_read (any_lines 3) (λ _. v3000_form) lines c.args.at.line refl c.in_ok-behind.behind.line tt c.in_ok-behind.ensures.takes in
    rw left c.v3000_from.ensures
