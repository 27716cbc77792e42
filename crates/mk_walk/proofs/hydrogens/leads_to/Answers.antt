use Rattle.std.proofs.Common.{◌≡◌, ◌<◌, length, take, refl, arith, All}
use Rattle.std.proofs.lemmas.List.{take_all}
use Rattle.std.proofs.lemmas.List.Elements.{All-more}
use Rattle.mk_walk.specs.Hydrogens.{JoinsAt}
use Rattle.mk_walk.proofs.HydrogensLemmas.{joins_by}
use Rattle.mk_walk.proofs.hydrogens.leads_to.Goals as goal

pub loop-number-preserved : goal.loop-number-preserved
loop-number-preserved c =
    let items = c.bonds_at-number-items.result.now in
    let i = c.loop-number.number-index in
    let below : i < length items = omega arith in
    All-more (JoinsAt c.args.graph.now c.args.e c.args.host) items i 0 below c.loop-number.invariant
    (joins_by c.args.graph.now c.args.e c.args.host _ c.bond.result c.bond.ensures.bond (rw c.edge.ensures at (c.if-not-has_ends.ensures.0 refl)))

pub returns : goal.returns
returns c =
    let items = c.bonds_at-number-items.result.now in
    let whole : take c.loop-number.number-index items ≡ items = take_all c.loop-number.number-index items (omega arith) in
    let all : All (JoinsAt c.args.graph.now c.args.e c.args.host) items = rw whole at c.loop-number.invariant in
    (λ _. rw c.bonds_at-number-items.ensures.numbers at all, λ _. refl)
