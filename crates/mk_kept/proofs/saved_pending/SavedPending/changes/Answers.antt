use Rattle.mk_kept.proofs.SavedPendingLemmas.{can_keep, of_saved}
use Rattle.mk_kept.proofs.saved_pending.SavedPending.changes.Goals as goal

pub returns-clause-kept : goal.returns-clause-kept
returns-clause-kept c = rw c.as_slice.ensures.value (can_keep c.self.inside.changes.items c.self.inside.queries.items c.self.invariant)

pub returns-clause-saved : goal.returns-clause-saved
returns-clause-saved c = rw c.as_slice.ensures.value (of_saved c.self.inside.changes.items c.self.inside.queries.items c.self.invariant)
