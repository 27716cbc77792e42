use Rattle.std.proofs.Common.{◌≡◌, ◌<◌, length, take, refl, arith, All}
use Rattle.std.proofs.lemmas.List.{take_all}
use Rattle.std.proofs.lemmas.List.Elements.{All-more}
use Rattle.mk_walk.specs.EarlierBonds.{IsMetAt}
use Rattle.mk_walk.proofs.EarlierBondsLemmas.{met_all, met_each}
use Rattle.mk_walk.proofs.earlier_bonds.are_bonds_met.Goals as goal

pub loop-number-preserved : goal.loop-number-preserved
loop-number-preserved c =
    let items = c.bonds_at-number-items.result.now in
    let i = c.loop-number.number-index in
    let below : i < length items = omega arith in
    All-more (IsMetAt c.args.graph.now c.args.mol.now c.args.first.now c.args.a) items i 0 below c.loop-number.invariant (c.if-not-is_met_at.ensures.0 refl)

pub returns : goal.returns
returns c =
    let items = c.bonds_at-number-items.result.now in
    let whole : take c.loop-number.number-index items ≡ items = take_all c.loop-number.number-index items (omega arith) in
    let met : All (IsMetAt c.args.graph.now c.args.mol.now c.args.first.now c.args.a) items = rw whole at c.loop-number.invariant in
    (λ _. met_all c.args.graph.now c.args.mol.now c.args.first.now c.args.a (rw c.next_number.ensures at (rw c.bonds_at-number-items.ensures.numbers at met)), λ _. refl)

pub returns-then-not-is_met_at : goal.returns-then-not-is_met_at
returns-then-not-is_met_at c = (
  λ never. cc,
  λ all. c.if-not-is_met_at.ensures.1 (met_each c.args.graph.now c.args.mol.now c.args.first.now c.args.a all _),
)
