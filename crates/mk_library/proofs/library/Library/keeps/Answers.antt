use Rattle.std.proofs.Common.{subst}
use Rattle.mk_library.specs.Library.{IsLibrary}
use Rattle.mk_library.proofs.RecordsLemmas.{is_library}
use Rattle.mk_library.proofs.library.Library.keeps.Goals as goal

pub returns-then-count-rows-clause-kept : goal.returns-then-count-rows-clause-kept
returns-then-count-rows-clause-kept c =
    subst IsLibrary c.self.view_is (is_library c.self.inside.texts.rows c.self.inside.shelf.rows c.self.inside.bytes c.self.inside.next _ c.self.invariant.0)

pub returns-then-self-count-gt-MOST_NUMBER-clause-kept : goal.returns-then-self-count-gt-MOST_NUMBER-clause-kept
returns-then-self-count-gt-MOST_NUMBER-clause-kept c =
    subst IsLibrary c.self.view_is (is_library c.self.inside.texts.rows c.self.inside.shelf.rows c.self.inside.bytes c.self.inside.next _ c.self.invariant.0)

pub returns-clause-kept : goal.returns-clause-kept
returns-clause-kept c =
    subst IsLibrary c.self.view_is (is_library c.self.inside.texts.rows c.self.inside.shelf.rows c.self.inside.bytes c.self.inside.next _ c.self.invariant.0)
