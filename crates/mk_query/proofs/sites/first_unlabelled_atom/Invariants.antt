use Rattle.std.proofs.Common.{ℕ, List, ◌<◌, ◌+◌}
use Rattle.mk_rgfile.specs.declared.raw_query.RawGroup.{RawGroup}
use Rattle.mk_query.specs.Marks.{AreServed}
use Rattle.mk_query.specs.SiteChecks.{HasLabel}
use Rattle.mk_query.proofs.sites.first_unlabelled_atom.Given as goal

abbrev pub invariant-loop-i : goal.invariant-loop-i
invariant-loop-i l = (groups : List RawGroup) → AreServed groups l.served → (j : ℕ) → j < l.i + 1 → HasLabel groups l.notes.table.now j
