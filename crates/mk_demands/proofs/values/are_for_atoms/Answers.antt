use Rattle.std.proofs.Common.{sym, ◌∙◌, refl}
use Rattle.std.proofs.lemmas.Bool.{true≢false, false≢true}
use Rattle.std.proofs.lemmas.List.{take_all}
use Rattle.std.proofs.lemmas.List.Elements.{All-more}
use Rattle.mk_props.specs.declared.property.Pair.{Pair}
use Rattle.mk_demands.specs.Numbers.{IsAtom}
use Rattle.mk_demands.proofs.values.are_for_atoms.Goals as goal

pub loop-pair-preserved : goal.loop-pair-preserved
loop-pair-preserved c =
    All-more (λ (pair : Pair). IsAtom c.args.atoms pair.atom) c.args.pairs.now c.loop-pair.pair-index _ c.loop-pair-test.true c.loop-pair.invariant (c.is_for_atom.ensures.0 c.if-not-is_for_atom.false)

pub returns-then-not-is_for_atom : goal.returns-then-not-is_for_atom
returns-then-not-is_for_atom c = (
  λ t. absurd (false≢true t),
  λ all. absurd (true≢false (sym (c.is_for_atom.ensures.1 (all c.loop-pair.pair-index _ c.loop-pair-test.true)) ∙ c.if-not-is_for_atom.true)),
)

pub returns : goal.returns
returns c = (λ t. rw (take_all c.loop-pair.pair-index c.args.pairs.now c.loop-pair-test.false) at c.loop-pair.invariant, λ all. refl)
