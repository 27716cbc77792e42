use Rattle.std.proofs.Common.{◌∙◌, is_some, sym, ap, subst}
use Rattle.mk_kept.specs.Saved.{SavedView, is_named}
use Rattle.mk_kept.specs.Named.{IsQueryNamed}
use Rattle.mk_kept.proofs.SavedLemmas.{named_by_key}
use Rattle.mk_kept.proofs.NamedLemmas.{query_found}
use Rattle.mk_kept.proofs.saved.Saved.query_named.Goals as goal

pub returns-in-None-clause-none : goal.returns-in-None-clause-none
returns-in-None-clause-none c =
    ap (λ (v : SavedView). is_named c.args.name.now v.queries) (sym c.self.view_is) ∙ sym (named_by_key c.args.name.now c.self.inside.queries.entries) ∙ ap is_some (sym c.in-None.ensures.value)

pub returns-in-Some-clause-some : goal.returns-in-Some-clause-some
returns-in-Some-clause-some c =
    subst (λ (v : SavedView). IsQueryNamed v.queries c.args.name.now c.in-Some.kept.now.query) c.self.view_is
    (query_found c.args.name.now c.self.inside.queries.entries c.in-Some.kept.now c.self.invariant.each (sym c.in-Some.ensures.value)).0

pub returns-in-Some-clause-name : goal.returns-in-Some-clause-name
returns-in-Some-clause-name c = (query_found c.args.name.now c.self.inside.queries.entries c.in-Some.kept.now c.self.invariant.each (sym c.in-Some.ensures.value)).1
