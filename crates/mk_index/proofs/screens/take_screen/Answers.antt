use Rattle.std.proofs.Common.{◌≡◌, ◌+◌, ◌-◌, ◌*◌, ◌/◌, ◌<◌, ◌≤◌, ◌∙◌, ℕ, List, length, subst, sym}
use Rattle.mk_model.specs.declared.screen.Screen.{Screen}
use Rattle.mk_index.specs.Columns.{AreColumns, IsClear, IsClosed, cell}
use Rattle.mk_index.proofs.ScreensLemmas.{taken_columns}
use Rattle.mk_index.proofs.screens.take_screen.Goals as goal

pub returns-clause-columns : goal.returns-clause-columns
returns-clause-columns c =
    let screens = c.args.screens.now.items in
    let size : c.len.result ≡ length screens = c.len.ensures ∙ c.args.screens.now.ok.0 in
    let closed : IsClosed ((length screens - 1) / 64 + 1) c.args.at c.args.columns.now.items c.close_row.new.columns.items =
    subst (λ (n : ℕ). IsClosed ((n - 1) / 64 + 1) c.args.at c.args.columns.now.items c.close_row.new.columns.items) size c.close_row.ensures.closed in
    let last : IsClear c.close_row.new.columns.items (64 * ((length screens - 1) / 64 + 1) - 1) =
    subst (λ (n : ℕ). IsClear c.close_row.new.columns.items (64 * ((n - 1) / 64 + 1) - 1)) size c.close_row.ensures.last in
    let rest : (i b : ℕ) → 64 * ((length screens - 1) / 64 + 1) ≤ i → b < 512 → cell c.close_row.new.columns.items i b ≡ cell c.args.columns.now.items i b =
    subst (λ (n : ℕ). (i b : ℕ) → 64 * ((n - 1) / 64 + 1) ≤ i → b < 512 → cell c.close_row.new.columns.items i b ≡ cell c.args.columns.now.items i b) size c.close_row.ensures.behind in
    subst (λ (xs : List Screen). AreColumns xs c.close_row.new.columns.items) (sym c.remove.ensures.items)
    (taken_columns screens c.args.at c.args.columns.now.items c.close_row.new.columns.items c.requires.within c.requires.columns closed last rest c.close_row.ensures.size)
