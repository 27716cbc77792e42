use Rattle.std.proofs.Common.{◌∙◌, sym, arith}
use Rattle.mk_library.proofs.EditLemmas.{no_record_to_remove, remove_allowed, remove_keeps}
use Rattle.mk_library.proofs.library.Library.remove.Goals as goal

pub returns-then-not-holds-clause-refused : goal.returns-then-not-holds-clause-refused
returns-then-not-holds-clause-refused c =
    no_record_to_remove c.args.self.now.records c.args.self.now.next_record c.args.number (sym c.holds.ensures.held ∙ c.if-not-holds.true)

pub returns-clause-changes : goal.returns-clause-changes
returns-clause-changes c =
    rw (c.of.ensures.changes, c.in_ok-push.ensures.items, c.in_ok-changes.ensures.items)
    (remove_allowed c.args.self.now.records c.args.self.now.next_record c.args.number (sym c.holds.ensures.held ∙ c.if-not-holds.false))

pub returns-clause-fits : goal.returns-clause-fits
returns-clause-fits c = record {
  numbers = rw (c.of.ensures.changes, c.in_ok-push.ensures.items, c.in_ok-changes.ensures.items) (sym c.holds.ensures.held ∙ c.if-not-holds.false, tt);
  limits = rw (c.of.ensures.changes, c.in_ok-push.ensures.items, c.in_ok-changes.ensures.items) (remove_keeps c.args.number c.args.self.now.records c.holds.ensures.kept.limits, tt);
  room = rw (c.of.ensures.changes, c.in_ok-push.ensures.items, c.in_ok-changes.ensures.items) (omega arith);
}
