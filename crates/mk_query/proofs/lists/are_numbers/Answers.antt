use Rattle.std.proofs.Common.{sym, ◌∙◌, refl}
use Rattle.std.proofs.lemmas.Bool.{true≢false, false≢true}
use Rattle.std.proofs.lemmas.List.{take_all}
use Rattle.std.proofs.lemmas.List.Elements.{All-more}
use Rattle.std.specs.Prelude.{pos}
use Rattle.mk_demands.specs.Numbers.{IsWithin}
use Rattle.mk_query.proofs.lists.are_numbers.Goals as goal

pub loop-number-preserved : goal.loop-number-preserved
loop-number-preserved c = All-more (IsWithin (pos 1) (pos 118)) c.args.numbers.now c.loop-number.number-index _
    c.loop-number-test.true c.loop-number.invariant (c.is_number.ensures.0 c.if-not-is_number.false)

pub returns-then-not-is_number : goal.returns-then-not-is_number
returns-then-not-is_number c = (
  λ t. absurd (false≢true t),
  λ all. absurd (true≢false (sym (c.is_number.ensures.1 (all c.loop-number.number-index _ c.loop-number-test.true)) ∙ c.if-not-is_number.true)),
)

pub returns : goal.returns
returns c = (λ t. rw (take_all c.loop-number.number-index c.args.numbers.now c.loop-number-test.false) at c.loop-number.invariant, λ all. refl)
