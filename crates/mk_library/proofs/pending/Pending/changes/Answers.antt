use Rattle.mk_library.proofs.PendingLemmas.{can_keep, of_records}
use Rattle.mk_library.proofs.pending.Pending.changes.Goals as goal

pub returns-clause-kept : goal.returns-clause-kept
returns-clause-kept c = rw c.as_slice.ensures.value (can_keep c.self.inside.changes.items c.self.inside.mols.items c.self.invariant)

pub returns-clause-records : goal.returns-clause-records
returns-clause-records c = rw c.as_slice.ensures.value (of_records c.self.inside.changes.items c.self.inside.mols.items c.self.invariant)
