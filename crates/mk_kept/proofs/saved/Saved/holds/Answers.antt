use Rattle.std.proofs.Common.{◌∙◌, ap}
use Rattle.mk_kept.specs.Saved.{SavedView, is_named}
use Rattle.mk_kept.proofs.SavedLemmas.{named_by_key}
use Rattle.mk_kept.proofs.saved.Saved.holds.Goals as goal

pub returns : goal.returns
returns c =
    c.contains_key.ensures ∙ named_by_key c.args.name.now c.self.inside.queries.entries ∙ ap (λ (v : SavedView). is_named c.args.name.now v.queries) c.self.view_is
