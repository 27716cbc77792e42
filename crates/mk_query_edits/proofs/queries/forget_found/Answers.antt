use Rattle.std.proofs.Common.{◌∙◌}
use Rattle.mk_query_edits.proofs.QueriesLemmas.{changes_ready, forget_fits}
use Rattle.mk_query_edits.proofs.queries.forget_found.Goals as goal

pub of-pending-requires : goal.of-pending-requires
of-pending-requires c = rw (c.in_ok-changes.ensures, c.new.ensures.items) (changes_ready c.args.name.now c.args.saved.now.cursors c.requires)

pub returns-clause-fits : goal.returns-clause-fits
returns-clause-fits c = λ library. forget_fits c.args.saved.now c.of-pending.result c.args.name.now (c.of-pending.ensures.changes ∙ c.in_ok-changes.ensures)
