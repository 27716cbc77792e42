use Rattle.std.proofs.Common.{◌≡◌, arith, ap, subst, ◌∙◌, List}
use Rattle.mk_outside.specs.declared.tables.RecordRow.{RecordRow}
use Rattle.mk_library.specs.Records.{AreHeld}
use Rattle.mk_drill.specs.DrilledRecords.{drilled_records}
use Rattle.mk_drill.proofs.DrilledTextLemmas.{drilled_is_loadable}
use Rattle.mk_drill.proofs.HeldLemmas.{all_held}
use Rattle.mk_drill.proofs.LibraryLemmas.{count, loaded_more}
use Rattle.mk_drill.proofs.drilled_records.drilled_library.Goals as goal

pub load_table-requires-clause-loadable : goal.load_table-requires-clause-loadable
load_table-requires-clause-loadable c = rw c.in_ok-table.ensures.table (drilled_is_loadable c.loop-n.draws.state)

pub load_table-requires-clause-few : goal.load_table-requires-clause-few
load_table-requires-clause-few c = omega (arith, count c.args.start c.loop-n.n c.loop-n.library c.loop-n.draws.state c.loop-n.invariant, c.loop-n-test.true)

pub loop-n-preserved : goal.loop-n-preserved
loop-n-preserved c =
    loaded_more c.args.start c.loop-n.n c.loop-n.library c.load_table.new.library c.in_ok-table.table c.loop-n.draws.state c.drilled_table.new.draws.state c.loop-n.invariant
    c.in_ok-table.ensures.table c.in_ok-table.ensures.state c.in_ok-load_table.ensures.records c.in_ok-load_table.ensures.counted

pub returns-clause-held : goal.returns-clause-held
returns-clause-held c =
    let all : c.loop-n.n ≡ c.args.count = omega (arith, c.loop-n-test.false, c.loop-n.auto.n-end) in
    all_held c.args.start c.args.count c.loop-n.library.rows c.one_filled_molecule.ensures
    (subst (λ (rows : List RecordRow). AreHeld rows c.loop-n.library.rows) (c.loop-n.invariant.records ∙ ap (drilled_records c.args.start) all) (rw c.shelf.ensures.rows at c.shelf.ensures.held))
