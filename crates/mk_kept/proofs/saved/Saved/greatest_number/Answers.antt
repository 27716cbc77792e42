use Rattle.std.proofs.Common.{◌≡◌, ◌≤◌, sym, ap, ◌∙◌, subst}
use Rattle.std.specs.List.{AllByRecursion}
use Rattle.mk_outside.specs.declared.tables.QueryRow.{QueryRow}
use Rattle.mk_kept.specs.Saved.{SavedView, greatest_number, rows_of}
use Rattle.mk_kept.proofs.SavedLemmas.{greatest_is_last, none_above_greatest}
use Rattle.mk_kept.proofs.saved.Saved.greatest_number.Goals as goal

pub returns-in-Some-clause-greatest : goal.returns-in-Some-clause-greatest
returns-in-Some-clause-greatest c =
    sym (greatest_is_last c.self.inside.queries.entries (c.in-Some.field-0-0.now, c.in-Some.kept.now) c.self.invariant.rising (sym c.in-Some.ensures.entry))
    ∙ ap (λ (v : SavedView). greatest_number v.queries) c.self.view_is

pub returns-in-Some-clause-least : goal.returns-in-Some-clause-least
returns-in-Some-clause-least c =
    let is : greatest_number (rows_of c.self.inside.queries.entries) ≡ c.in-Some.kept.now.number =
    greatest_is_last c.self.inside.queries.entries (c.in-Some.field-0-0.now, c.in-Some.kept.now) c.self.invariant.rising (sym c.in-Some.ensures.entry) in
    subst (λ (v : SavedView). AllByRecursion (λ (row : QueryRow). row.number ≤ c.in-Some.kept.now.number) v.queries) c.self.view_is
    (subst (λ n. AllByRecursion (λ (row : QueryRow). row.number ≤ n) (rows_of c.self.inside.queries.entries)) is (none_above_greatest (rows_of c.self.inside.queries.entries)))
