use Rattle.std.proofs.Common.{ℕ, List, subst}
use Rattle.mk_expand.specs.OpenGraphs.{IsOpenGraph}
use Rattle.mk_fronts.proofs.fronts.need_of_all.Goals as goal

pub returns : goal.returns
returns c =
    let made = subst (λ (code : List ℕ). IsOpenGraph c.args.query.now code c.in_ok-ask.ask) c.deref.ensures.value c.in_ok-ask.ensures.made in
    record { of_all = c.root_need.ensures c.args.query.now c.in_ok-code.code.items c.in_ok-ask.ask c.need.result c.templates-fits.ensures.kept c.in_ok-code.ensures made c.need.ensures }
