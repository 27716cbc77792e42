use Rattle.std.proofs.Common.{subst}
use Rattle.mk_library.specs.Library.{IsLibrary}
use Rattle.mk_library.proofs.RecordsLemmas.{is_library}
use Rattle.mk_library.proofs.library.Library.shelf.Goals as goal

pub returns-clause-kept : goal.returns-clause-kept
returns-clause-kept c =
    subst IsLibrary c.self.view_is (is_library c.self.inside.texts.rows c.self.inside.shelf.rows c.self.inside.bytes c.self.inside.next _ c.self.invariant.0)
