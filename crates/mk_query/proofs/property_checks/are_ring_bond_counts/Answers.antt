use Rattle.std.proofs.Common.{sym, ◌∙◌, refl}
use Rattle.std.proofs.lemmas.Bool.{true≢false, false≢true}
use Rattle.std.proofs.lemmas.List.{take_all}
use Rattle.std.proofs.lemmas.List.Elements.{All-more}
use Rattle.mk_props.specs.declared.property.Pair.{Pair}
use Rattle.mk_query.specs.Checks.{IsRingBondCount}
use Rattle.mk_query.proofs.property_checks.are_ring_bond_counts.Goals as goal

pub loop-pair-preserved : goal.loop-pair-preserved
loop-pair-preserved c =
    All-more (λ (pair : Pair). IsRingBondCount pair.value) c.args.pairs.now c.loop-pair.pair-index _
    c.loop-pair-test.true c.loop-pair.invariant (c.is_ring_bond_count.ensures.0 c.if-not-is_ring_bond_count.false)

pub returns-then-not-is_ring_bond_count : goal.returns-then-not-is_ring_bond_count
returns-then-not-is_ring_bond_count c = (
  λ t. absurd (false≢true t),
  λ all. absurd (true≢false (sym (c.is_ring_bond_count.ensures.1 (all c.loop-pair.pair-index _ c.loop-pair-test.true)) ∙ c.if-not-is_ring_bond_count.true)),
)

pub returns : goal.returns
returns c = (λ t. rw (take_all c.loop-pair.pair-index c.args.pairs.now c.loop-pair-test.false) at c.loop-pair.invariant, λ all. refl)
