use Rattle.std.proofs.Common.{bytes_eq, ℕ, ◌∙◌, subst, sym}
use Rattle.std.specs.Global.{Vec}
use Rattle.std.proofs.lemmas.Slice.Eq.{bytes_eq-Decides}
use Rattle.mk_model.specs.Queries.{QueryView}
use Rattle.mk_fronts.specs.Asks.{IsAskOf}
use Rattle.mk_fronts.proofs.AsksLemmas.{put}
use Rattle.mk_fronts.proofs.stores.Stores.keep.Goals as goal

pub invariant_of-self-2 : goal.invariant_of-self-2
invariant_of-self-2 c =
    let same = c.self.view_is ∙ c.make_room.ensures in
    let is = subst (λ (q : QueryView). IsAskOf q c.in_ok-kept.kept.items c.args.ask) (sym same) (rw c.in_ok-kept.ensures.items c.requires) in
    let are = put c.self.inside.query.now (λ (a b : Vec ℕ). bytes_eq a.items b.items) (λ a b alike. (bytes_eq-Decides a.items b.items).0 alike)
    c.self.inside.young.entries c.in_ok-kept.kept c.args.ask c.self.invariant.0 is in
    (rw c.in_ok-insert.ensures.entries are, c.self.invariant.1)
