use Rattle.std.proofs.Common.{ℕ, ◌<◌, ◌+◌}
use Rattle.mk_query.specs.SiteChecks.{HasSitePlace}
use Rattle.mk_query.proofs.sites.first_misplaced_site.Given as goal

abbrev pub invariant-loop-i : goal.invariant-loop-i
invariant-loop-i l = (j : ℕ) → j < l.i + 1 → HasSitePlace l.notes.table.now j
