use Rattle.mk_search.specs.Pages.{IsHeldIn}
use Rattle.mk_rtable.specs.Begins.{BeginsOfTable}
use Rattle.mk_rtable.specs.Table.{IsRGroupTable}
use Rattle.mk_rtable.proofs.ForCallers.{if_ok}
use Rattle.mk_library.specs.Records.{IsMoleculeAt}
use Rattle.mk_rtable.proofs.AnswerLemmas.{rows_begun_over_records, rows_over_records}
use Rattle.mk_rtable.proofs.answering.rows_of.Goals as goal

pub returns-clause-table : goal.returns-clause-table
returns-clause-table g c =
    let records = c.args.library.now.records in
    let rows = c.shelf.result.now.rows in
    let query = c.args.query.now in
    if_ok c.r_table.result (IsRGroupTable (IsHeldIn rows) query) (IsRGroupTable (IsMoleculeAt records) query)
    (rows_over_records c.one_filled_molecule.ensures c.sdfile_is_exact.ensures.one records rows query c.shelf.ensures.held) c.r_table.ensures.table

pub returns-clause-begins : goal.returns-clause-begins
returns-clause-begins g c =
    let records = c.args.library.now.records in
    let rows = c.shelf.result.now.rows in
    let query = c.args.query.now in
    let old = c.args.steps.now in
    let new = c.r_table.new.steps in
    if_ok c.r_table.result (λ _. BeginsOfTable (IsHeldIn rows) query old new) (λ _. BeginsOfTable (IsMoleculeAt records) query old new)
    (λ table. rows_begun_over_records c.one_filled_molecule.ensures c.sdfile_is_exact.ensures.one records rows query c.shelf.ensures.held old new) c.r_table.ensures.begins
