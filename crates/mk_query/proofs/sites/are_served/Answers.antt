use Rattle.std.proofs.Common.{◌+◌, ◌∙◌, arith, refl, sym}
use Rattle.std.proofs.lemmas.Bool.{true≢false}
use Rattle.mk_query.proofs.LabelLemmas.{served_more, serves_is, unserved_is}
use Rattle.mk_query.proofs.sites.are_served.Goals as goal

pub loop-i-init : goal.loop-i-init
loop-i-init c = λ g least most. absurd (omega (arith, least, most))

pub loop-i-preserved : goal.loop-i-preserved
loop-i-preserved c =
    served_more c.args.served.now c.args.groups c.loop-i.i c.loop-i.invariant
    (serves_is c.args.served.now c.args.groups (c.loop-i.i + 1) (sym c.serves.ensures ∙ c.if-not-serves.false))

pub returns-then-not-serves : goal.returns-then-not-serves
returns-then-not-serves c = (
  λ so. absurd (true≢false (sym so)),
  λ all. absurd (unserved_is c.args.served.now c.args.groups (c.loop-i.i + 1) (sym c.serves.ensures ∙ c.if-not-serves.true) (all (c.loop-i.i + 1) (omega arith) (omega (arith, c.loop-i-test.true)))),
)

pub returns : goal.returns
returns c = (λ _ g least most. c.loop-i.invariant g least (omega (arith, most, c.loop-i-test.false)), λ _. refl)
