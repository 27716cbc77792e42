use Rattle.mk_model.specs.declared.template.QueryBond.{QueryBond}
use Rattle.mk_query.specs.LinkSearch.{IsLike}
use Rattle.mk_query.proofs.LinkLemmas.{NoneOf}
use Rattle.mk_query.proofs.links.has_like.Given as goal

abbrev pub invariant-loop-number : goal.invariant-loop-number
invariant-loop-number l = NoneOf (λ (bond : QueryBond). IsLike l.link l.one bond) l.bonds l.numbers l.number-index
