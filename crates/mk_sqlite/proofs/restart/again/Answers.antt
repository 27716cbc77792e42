use Rattle.std.proofs.Common.{◌∙◌, sym}
use Rattle.mk_sqlite.proofs.restart.again.Goals as goal

pub returns-in-Ok-clause-tells : goal.returns-in-Ok-clause-tells
returns-in-Ok-clause-tells g c = rw (sym c.into_opened.ensures ∙ c.in-Ok.is) c.reopened.ensures.tells
