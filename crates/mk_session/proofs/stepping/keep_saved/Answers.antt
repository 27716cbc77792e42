use Rattle.std.proofs.Common.{◌∙◌, Some, sym, ap}
use Rattle.mk_outside.specs.declared.tables.Tables.{Tables}
use Rattle.mk_session.proofs.SteppingLemmas.{saved_installed}
use Rattle.mk_session.proofs.stepping.keep_saved.Goals as goal

pub returns-clause-tables : goal.returns-clause-tables
returns-clause-tables g c = λ library.
    saved_installed c.args.pending.changes library c.args.saved.now c.install.new.self (rw c.changes-changes.ensures.list at c.changes-changes.ensures.saved) c.install.ensures

pub returns-clause-kept : goal.returns-clause-kept
returns-clause-kept g c = λ sound library is.
    let told = rw (is, c.changes-changes.ensures.list) at (c.in_ok-commit.ensures.told sound) in
    told ∙ ap (λ (t : Tables). Some t)
    (sym (saved_installed c.args.pending.changes library c.args.saved.now c.install.new.self (rw c.changes-changes.ensures.list at c.changes-changes.ensures.saved) c.install.ensures))
