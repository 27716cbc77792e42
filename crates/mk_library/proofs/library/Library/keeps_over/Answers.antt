use Rattle.std.proofs.Common.{◌≡◌, ◌<◌, ◌≤◌, ◌-◌, ◌∙◌, length, true, arith, sym, ap, subst}
use Rattle.std.proofs.lemmas.Bool.{leb-true, leb-false, true≢false}
use Rattle.mk_rows.specs.Rows.{holds}
use Rattle.mk_outside.specs.declared.tables.Change.TheVariants.{PutRecord}
use Rattle.mk_library.specs.Library.{LibraryView, tables_of}
use Rattle.mk_library.specs.Pending.{KeepsLimits}
use Rattle.mk_library.specs.Records.{is_held}
use Rattle.mk_library.proofs.ChangeLemmas.{former_within, over_fits, over_keeps}
use Rattle.mk_library.proofs.RecordsLemmas.{held_of}
use Rattle.mk_library.proofs.library.Library.keeps_over.Goals as goal

pub unreachable-requires : goal.unreachable-requires
unreachable-requires c =
    let held : holds c.args.number c.self.inside.texts.rows ≡ true = held_of c.args.number c.self.inside.texts.rows ∙ ap (λ v. is_held c.args.number v.records) c.self.view_is ∙ c.requires in
    true≢false (sym held ∙ c.in_default.ensures.none)

pub overflow_sub-others : goal.overflow_sub-others
overflow_sub-others c =
    let within = former_within c.args.number c.in-Some.former.now c.self.inside.texts.rows c.in-Some.ensures.some in
    omega (arith, within, c.self.invariant.0.counted, ap length c.as_slice.ensures)

pub returns-clause-keeps : goal.returns-clause-keeps
returns-clause-keeps c = λ yes.
    let held : holds c.args.number c.self.inside.texts.rows ≡ true = held_of c.args.number c.self.inside.texts.rows ∙ ap (λ v. is_held c.args.number v.records) c.self.view_is ∙ c.requires in
    let is : length c.args.text.now ≤ 134217728 - (c.self.inside.bytes - length c.as_slice.result.now) = leb-true _ _ yes in
    let fits : length c.args.text.now ≤ 134217728 - (c.self.inside.bytes - length c.in-Some.former.now) = rw c.as_slice.ensures at is in
    subst (λ (v : LibraryView). KeepsLimits (PutRecord c.args.number c.args.text.now) (tables_of v)) c.self.view_is
    (over_keeps c.self.inside.texts.rows c.self.inside.shelf.rows c.self.inside.bytes c.self.inside.next c.args.number c.args.text.now c.in-Some.former.now c.self.invariant.0 held
    c.in-Some.ensures.some fits)

pub returns-clause-full : goal.returns-clause-full
returns-clause-full c = λ not keeps.
    let held : holds c.args.number c.self.inside.texts.rows ≡ true = held_of c.args.number c.self.inside.texts.rows ∙ ap (λ v. is_held c.args.number v.records) c.self.view_is ∙ c.requires in
    let is : 134217728 - (c.self.inside.bytes - length c.as_slice.result.now) < length c.args.text.now = leb-false _ _ not in
    let over : 134217728 - (c.self.inside.bytes - length c.in-Some.former.now) < length c.args.text.now = rw c.as_slice.ensures at is in
    let fits = over_fits c.self.inside.texts.rows c.self.inside.shelf.rows c.self.inside.bytes c.self.inside.next c.args.number c.args.text.now c.in-Some.former.now c.self.invariant.0 held
    c.in-Some.ensures.some (subst (λ (v : LibraryView). KeepsLimits (PutRecord c.args.number c.args.text.now) (tables_of v)) (sym c.self.view_is) keeps) in
    omega (arith, over, fits)
