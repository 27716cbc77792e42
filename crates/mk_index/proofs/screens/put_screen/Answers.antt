use Rattle.std.proofs.Common.{◌≡◌, ◌+◌, ◌*◌, ◌/◌, ◌≤◌, ◌∙◌, ℕ, List, length, replicate, ◌++◌, arith, subst, sym}
use Rattle.mk_model.specs.declared.screen.Screen.{Screen}
use Rattle.mk_index.specs.Columns.{AreColumns, IsClear}
use Rattle.mk_rows.proofs.ForCallers.{took}
use Rattle.mk_index.proofs.ScreensLemmas.{grown, put_columns}
use Rattle.mk_index.proofs.screens.put_screen.Goals as goal

grown_to : (screens : List Screen) (old new : List ℕ) → AreColumns screens old → ((n : ℕ) × (new ≡ old ++ replicate n 0)) → AreColumns screens new
grown_to screens old new are zeros = subst (λ (xs : List ℕ). AreColumns screens xs) (sym zeros.1) (grown screens old zeros.0 are)

pub insert_row-requires-clause-clear : goal.insert_row-requires-clause-clear
insert_row-requires-clause-clear c i behind =
    (grown_to c.args.screens.now.items c.args.columns.now.items c.grow.new.columns.items c.requires.columns c.grow.ensures.zeros).clear i
    (omega (arith, behind, c.len-rows.ensures, c.args.screens.now.ok.0))

pub returns-clause-columns : goal.returns-clause-columns
returns-clause-columns c =
    let screens = c.args.screens.now.items in
    let size : c.len-rows.result ≡ length screens = c.len-rows.ensures ∙ c.args.screens.now.ok.0 in
    let are = grown_to screens c.args.columns.now.items c.grow.new.columns.items c.requires.columns c.grow.ensures.zeros in
    let room : (length screens / 64 + 1) * 512 ≤ length c.insert_row.new.columns.items = (let grew = c.grow.ensures.size in omega (arith, size, c.insert_row.ensures.size)) in
    let items = took c.insert.result _ _ _ (c.insert.ensures.succeeds (omega (arith, c.args.screens.now.ok.0, c.requires.room))) c.insert.ensures.items in
    subst (λ (xs : List Screen). AreColumns xs c.insert_row.new.columns.items) (sym items)
    (put_columns screens c.args.screen c.args.at c.grow.new.columns.items c.insert_row.new.columns.items c.requires.within are c.insert_row.ensures.inserted room)
