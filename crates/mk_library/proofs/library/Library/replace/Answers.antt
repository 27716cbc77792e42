use Rattle.std.proofs.Common.{◌∙◌, sym, subst, List, ℕ}
use Rattle.mk_outside.specs.declared.tables.Change.TheVariants.{PutRecord}
use Rattle.mk_library.specs.declared.molecules.OneRecord.{OneRecord}
use Rattle.mk_library.specs.Library.{tables_of}
use Rattle.mk_library.specs.Pending.{PendingView, KeepsLimits}
use Rattle.mk_library.proofs.EditLemmas.{held_known, no_record_to_replace, replace_allowed, replace_full, replace_prepared}
use Rattle.mk_library.proofs.OneMoleculeLemmas.{replacement_refused}
use Rattle.mk_library.proofs.library.Library.replace.Goals as goal

pub returns-then-not-holds-clause-refused : goal.returns-then-not-holds-clause-refused
returns-then-not-holds-clause-refused c =
    no_record_to_replace c.args.self.now.records c.args.self.now.next_record c.args.number c.args.text.now (sym c.holds.ensures.held ∙ c.if-not-holds.true)

pub returns-in-Err-clause-refused : goal.returns-in-Err-clause-refused
returns-in-Err-clause-refused c =
    let held = sym c.holds.ensures.held ∙ c.if-not-holds.false in
    replacement_refused c.args.self.now.records c.args.self.now.next_record c.args.number c.args.text.now held OneRecord PendingView c.in-Err.said c.in-Err.ensures.refused

pub returns-then-not-keeps_over-clause-refused : goal.returns-then-not-keeps_over-clause-refused
returns-then-not-keeps_over-clause-refused c =
    let held = sym c.holds.ensures.held ∙ c.if-not-holds.false in
    let one = c.in-Ok.one in
    replace_full c.args.self.now.records c.args.self.now.next_record c.args.number c.args.text.now held one.mol c.in-Ok.ensures.molecule one.text c.in-Ok.ensures.text
    (λ keeps. c.keeps_over.ensures.full c.if-not-keeps_over.true
    (subst (λ (t : List ℕ). KeepsLimits (PutRecord c.args.number t) (tables_of c.args.self.now)) (sym c.as_slice.ensures) keeps))

-- ---- a replacement that is allowed

pub of-requires : goal.of-requires
of-requires c =
    let held = sym c.holds.ensures.held ∙ c.if-not-holds.false in
    let one = c.in-Ok.one in
    let known = held_known c.args.number c.args.self.now.records c.holds.ensures.kept.limits.numbers held in
    rw (c.in_ok-push.ensures.items, c.in_ok-changes.ensures.items, c.in_ok-push-2.ensures.items, c.in_ok-mols.ensures.items)
    (replace_prepared c.args.self.now.records c.args.self.now.next_record c.args.number c.args.text.now held one.mol c.in-Ok.ensures.molecule one.text c.in-Ok.ensures.text known)

pub returns-clause-changes : goal.returns-clause-changes
returns-clause-changes c =
    let held = sym c.holds.ensures.held ∙ c.if-not-holds.false in
    let one = c.in-Ok.one in
    let keeps : KeepsLimits (PutRecord c.args.number one.text) (tables_of c.args.self.now) =
    subst (λ (t : List ℕ). KeepsLimits (PutRecord c.args.number t) (tables_of c.args.self.now)) c.as_slice.ensures (c.keeps_over.ensures.keeps c.if-not-keeps_over.false) in
    rw (c.of.ensures.changes, c.in_ok-push.ensures.items, c.in_ok-changes.ensures.items)
    (replace_allowed c.args.self.now.records c.args.self.now.next_record c.args.number c.args.text.now held one.mol c.in-Ok.ensures.molecule one.text c.in-Ok.ensures.text keeps)
