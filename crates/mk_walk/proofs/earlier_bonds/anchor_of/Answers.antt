use Rattle.std.proofs.Common.{◌≡◌, ◌<◌, length, take, arith, All}
use Rattle.std.proofs.lemmas.List.{take_all}
use Rattle.std.proofs.lemmas.List.Elements.{All-more}
use Rattle.mk_walk.specs.EarlierBonds.{IsElsewhere}
use Rattle.mk_walk.proofs.EarlierBondsLemmas.{elsewhere, none_earlier}
use Rattle.mk_walk.proofs.earlier_bonds.anchor_of.Goals as goal

pub loop-number-preserved : goal.loop-number-preserved
loop-number-preserved c =
    let items = c.bonds_at-number-items.result.now in
    let i = c.loop-number.number-index in
    let below : i < length items = omega arith in
    All-more (IsElsewhere c.args.graph.now c.args.first.now) items i 0 below c.loop-number.invariant
    (elsewhere c.args.graph.now c.args.first.now _ c.bond-bond.result c.bond-bond.ensures.bond c.if-bond-first.false)

pub returns-clause-none : goal.returns-clause-none
returns-clause-none c =
    let items = c.bonds_at-number-items.result.now in
    let whole : take c.loop-number.number-index items ≡ items = take_all c.loop-number.number-index items (omega arith) in
    let all : All (IsElsewhere c.args.graph.now c.args.first.now) items = rw whole at c.loop-number.invariant in
    none_earlier c.args.graph.now c.args.first.now (rw c.next_number.ensures at (rw c.bonds_at-number-items.ensures.numbers at all))
