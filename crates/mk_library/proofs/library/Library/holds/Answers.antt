use Rattle.std.proofs.Common.{◌∙◌, ap, subst}
use Rattle.mk_library.specs.Library.{IsLibrary}
use Rattle.mk_library.specs.Records.{is_held}
use Rattle.mk_library.proofs.RecordsLemmas.{held_of, is_library}
use Rattle.mk_library.proofs.library.Library.holds.Goals as goal

pub returns-clause-held : goal.returns-clause-held
returns-clause-held c = c.holds.ensures ∙ held_of c.args.number c.self.inside.texts.rows ∙ ap (λ v. is_held c.args.number v.records) c.self.view_is

pub returns-clause-kept : goal.returns-clause-kept
returns-clause-kept c =
    subst IsLibrary c.self.view_is (is_library c.self.inside.texts.rows c.self.inside.shelf.rows c.self.inside.bytes c.self.inside.next _ c.self.invariant.0)
