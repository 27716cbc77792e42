use Rattle.std.proofs.Common.{List, IfOk, refl, subst}
use Rattle.mk_model.specs.Molecules.{Molecule}
use Rattle.mk_rows.specs.declared.by_number.Numbered.{Numbered}
use Rattle.mk_search.specs.Pages.{IsHeldIn}
use Rattle.mk_rtable.specs.Begins.{BeginsOfTable}
use Rattle.mk_rtable.specs.Table.{IsRGroupTable}
use Rattle.mk_rtable.proofs.table.r_table.Goals as goal

pub rows_left-requires : goal.rows_left-requires
rows_left-requires g c =
    let made = c.in_ok-hits.ensures.left in
    record { rows_is = refl; query_is = made.query_is; place_is = made.place_is; from_is = made.from_is; few = made.few }

pub returns-clause-table : goal.returns-clause-table
returns-clause-table g c =
    subst (λ (rows : List (Numbered Molecule)). IfOk c.rows_left.result (IsRGroupTable (IsHeldIn rows) c.args.query.now))
    c.in_ok-hits.ensures.left.rows_is c.rows_left.ensures.table

pub returns-clause-begins : goal.returns-clause-begins
returns-clause-begins g c =
    subst (λ (rows : List (Numbered Molecule)). IfOk c.rows_left.result (λ _. BeginsOfTable (IsHeldIn rows) c.args.query.now c.args.steps.now c.rows_left.new.steps))
    c.in_ok-hits.ensures.left.rows_is c.rows_left.ensures.begins
