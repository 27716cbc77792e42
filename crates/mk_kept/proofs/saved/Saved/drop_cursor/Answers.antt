use Rattle.mk_kept.proofs.SavedSearchLemmas.{out_kept, out_tables}
use Rattle.mk_kept.proofs.saved.Saved.drop_cursor.Goals as goal

pub invariant_of-self : goal.invariant_of-self
invariant_of-self c =
    rw c.remove.ensures.rows
    (out_kept c.self.inside.queries.entries c.self.inside.bytes c.self.inside.next_cursor c.args.number c.self.inside.cursors.rows c.self.invariant)

pub returns-clause-tables : goal.returns-clause-tables
returns-clause-tables c = rw (← c.self.view_is, c.remove.ensures.rows) (out_tables _ c.self.inside.next_cursor c.args.number c.self.inside.cursors.rows)
