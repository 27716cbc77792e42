use Rattle.std.proofs.Common.{◌++◌, refl}
use Rattle.mk_rtable.proofs.RecordsLemmas.{behind_first}
use Rattle.mk_rtable.proofs.table.row_of_key.Goals as goal

pub returns-clause-row : goal.returns-clause-row
returns-clause-row c n code hit is whole =
    (rw whole refl, c.in_ok-members.ensures.members code hit is (behind_first c.args.key.now n (code ++ hit) whole))
