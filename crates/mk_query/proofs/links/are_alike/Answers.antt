use Rattle.std.proofs.Common.{sym, ◌∙◌}
use Rattle.std.proofs.lemmas.Bool.{false≢true}
use Rattle.std.specs.Prelude.{IsTrue}
use Rattle.mk_model.specs.declared.template.QueryBond.{QueryBond}
use Rattle.mk_model.specs.Templates.{joins}
use Rattle.mk_query.specs.LinkSearch.{HasLike}
use Rattle.mk_query.proofs.LinkLemmas.{none-all, none-more}
use Rattle.mk_query.proofs.links.are_alike.Goals as goal
use Rattle.mk_query.proofs.links.are_alike.Goals.{else-joins, then-joins}

pub loop-number-preserved : goal.loop-number-preserved
loop-number-preserved c =
    none-more (λ (bond : QueryBond). IsTrue (joins c.args.link.atom c.args.link.from bond) × HasLike c.args.bonds.now c.args.link bond) c.args.bonds.now c.args.link.atom
    c.args.numbers.now c.loop-number.number-index _ c.requires c.loop-number-test.true
    (λ has. elim c.if-joins.branch [
      | then-joins w ↦ absurd (false≢true (sym c.if-found.false ∙ w.found-is ∙ w.has_like-found.ensures.1 has.1))
      | else-joins w ↦ absurd (false≢true (sym w.if-joins.false ∙ c.joins.ensures ∙ has.0))
    ])
    c.loop-number.invariant

pub returns : goal.returns
returns c = (
  λ t. absurd (false≢true t),
  λ has. absurd (
      none-all (λ (bond : QueryBond). IsTrue (joins c.args.link.atom c.args.link.from bond)
      × HasLike c.args.bonds.now c.args.link bond) c.args.bonds.now c.args.link.atom c.args.link.from
      c.args.numbers.now
      c.loop-number.number-index has.one c.requires c.loop-number-test.false c.loop-number.invariant has.at has.joined (has.joined, has.like)
      ),
)
