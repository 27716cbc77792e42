use Rattle.std.proofs.Common.{refl}
use Rattle.mk_query_edits.specs.Queries.{FileIsRefused}
use Rattle.mk_found.proofs.QueryFilesLemmas.{refused_by}
use Rattle.mk_query_edits.proofs.queries.keep_file.Goals as goal

pub returns-in-Refused-clause-comes : goal.returns-in-Refused-clause-comes
returns-in-Refused-clause-comes c = λ files file read.
    FileIsRefused c.requires.free c.in-Refused.line (refused_by files file c.args.bytes c.in-Refused.line read (rw c.in-Refused.is at c.in_ok-line.ensures)) refl
