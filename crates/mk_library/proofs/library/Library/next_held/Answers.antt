use Rattle.std.proofs.Common.{sym}
use Rattle.mk_library.proofs.RecordsLemmas.{least_of, none_of}
use Rattle.mk_library.proofs.library.Library.next_held.Goals as goal

pub returns-clause-some : goal.returns-clause-some
returns-clause-some c = rw (sym c.self.view_is) (least_of c.args.from c.self.inside.texts.rows c.next_row.result c.next_row.ensures.some)

pub returns-clause-none : goal.returns-clause-none
returns-clause-none c = rw (sym c.self.view_is) (none_of c.args.from c.self.inside.texts.rows c.next_row.result c.next_row.ensures.none)
