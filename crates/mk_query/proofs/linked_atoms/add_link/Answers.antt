use Rattle.std.proofs.Common.{◌≡◌, ◌∙◌, [], ◌∷◌, ap, subst, rules, arith, w32}
use Rattle.std.proofs.lemmas.Int.{to_z-of_z}
use mir.Val.{SFits}
use Rattle.mk_demands.specs.Numbers.{natural}
use Rattle.mk_query.specs.declared.linked_atoms.Linked.{Linked}
use Rattle.mk_query.specs.LinkMarks.{HasMoreLinks}
use Rattle.mk_query.proofs.LinkMarkLemmas.{link-put}
use Rattle.mk_query.proofs.linked_atoms.add_link.Goals as goal

pub returns-then-place-len : goal.returns-then-place-len
returns-then-place-len c =
    let atom : SFits w32 c.args.link.atom = search rules in
    let number : c.natural-place.result ≡ natural c.args.link.atom = c.natural-place.ensures ∙ ap natural (to_z-of_z w32 c.args.link.atom atom) in
    let more = subst (λ (was : Linked). HasMoreLinks (c.args.link ∷ []) was c.and_link.result) c.index.ensures c.and_link.ensures in
    link-put c.args.list.now.items c.args.link c.natural-place.result _ c.and_link.result number (omega arith) (omega arith) more
