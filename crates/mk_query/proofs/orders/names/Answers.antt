use Rattle.std.proofs.Common.{◌≡◌, sym, ◌∙◌}
use Rattle.std.specs.Prelude.{pos}
use Rattle.std.proofs.lemmas.Bool.{true≢false, false≢true}
use Rattle.std.proofs.lemmas.List.{take_all}
use Rattle.std.proofs.lemmas.List.Elements.{All-more, All-contains}
use Rattle.mk_props.specs.declared.property.Pair.{Pair}
use Rattle.mk_query.proofs.orders.names.Goals as goal

pub loop-pair-preserved : goal.loop-pair-preserved
loop-pair-preserved c =
    All-more (λ (pair : Pair). pair.atom ≡ pos c.args.y → ⊥) c.args.entries.now c.loop-pair.pair-index _ c.loop-pair-test.true c.loop-pair.invariant
    (λ e. true≢false (sym (c.is_of.ensures.1 e) ∙ c.if-is_of.false))

pub returns : goal.returns
returns c = (
  λ t. absurd (false≢true t),
  λ has. absurd (All-contains (λ (pair : Pair). pair.atom ≡ pos c.args.y → ⊥) c.args.entries.now has.0
      (rw (take_all c.loop-pair.pair-index c.args.entries.now c.loop-pair-test.false) at c.loop-pair.invariant) has.1
      has.2),
)
