use Rattle.std.proofs.Common.{◌∙◌, ◌+◌, ◌++◌, ◌∷◌, [], ℕ, List, ap, sym, arith}
use Rattle.mk_query.proofs.LabelMarkLemmas.{groups_all, groups_set, groups_unset}
use Rattle.mk_query.proofs.template_slots.groups_in.Goals as goal

pub loop-i-preserved-then-not-has_group : goal.loop-i-preserved-then-not-has_group
loop-i-preserved-then-not-has_group c = c.loop-i.invariant ∙ sym (groups_unset c.args.groups c.loop-i.i (sym c.has_group.ensures ∙ c.if-not-has_group.true))

pub loop-i-preserved : goal.loop-i-preserved
loop-i-preserved c =
    c.in_ok-push.ensures.items ∙ ap (λ (l : List ℕ). l ++ (c.loop-i.i + 1) ∷ []) c.loop-i.invariant
    ∙ sym (groups_set c.args.groups c.loop-i.i (sym c.has_group.ensures ∙ c.if-not-has_group.false))

pub returns : goal.returns
returns c = c.of.ensures ∙ groups_all c.args.groups c.loop-i.i c.loop-i.numbers.items (omega (arith, c.loop-i-test.false, c.loop-i.auto.i-end)) c.loop-i.invariant
