use Rattle.std.proofs.Common.{sym}
use Rattle.mk_edits.proofs.LoadingLemmas.{text_is_held}
use Rattle.mk_edits.proofs.loading.is_held.Goals as goal

pub returns-in-Some : goal.returns-in-Some
returns-in-Some c = sym (text_is_held c.args.number c.args.library.now.records _ c.in-Some.ensures.some)
