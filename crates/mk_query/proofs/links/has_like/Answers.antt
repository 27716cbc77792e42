use Rattle.std.proofs.lemmas.Bool.{false≢true}
use Rattle.mk_model.specs.declared.template.QueryBond.{QueryBond}
use Rattle.mk_query.specs.LinkSearch.{IsLike}
use Rattle.mk_query.proofs.LinkLemmas.{none-all, none-more}
use Rattle.mk_query.proofs.links.has_like.Goals as goal

pub loop-number-preserved : goal.loop-number-preserved
loop-number-preserved c =
    none-more (λ (bond : QueryBond). IsLike c.args.link c.args.one bond) c.args.bonds.now c.args.link.atom c.args.numbers.now c.loop-number.number-index _ c.requires
    c.loop-number-test.true (λ like. absurd (false≢true (c.if-is_like.ensures.1 like))) c.loop-number.invariant

pub returns : goal.returns
returns c = (
  λ t. absurd (false≢true t),
  λ has. absurd (
      none-all (λ (bond : QueryBond). IsLike c.args.link c.args.one bond) c.args.bonds.now c.args.link.atom
      c.args.link.to c.args.numbers.now c.loop-number.number-index has.other c.requires c.loop-number-test.false
      c.loop-number.invariant has.at has.like.joined has.like
      ),
)
