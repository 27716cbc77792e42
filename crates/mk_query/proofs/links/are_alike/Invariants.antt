use Rattle.mk_model.specs.declared.template.QueryBond.{QueryBond}
use Rattle.mk_model.specs.Templates.{joins}
use Rattle.mk_query.specs.LinkSearch.{HasLike}
use Rattle.std.specs.Prelude.{IsTrue}
use Rattle.mk_query.proofs.LinkLemmas.{NoneOf}
use Rattle.mk_query.proofs.links.are_alike.Given as goal

abbrev pub invariant-loop-number : goal.invariant-loop-number
invariant-loop-number l = NoneOf (λ (bond : QueryBond). IsTrue (joins l.link.atom l.link.from bond) × HasLike l.bonds l.link bond) l.bonds l.numbers l.number-index
