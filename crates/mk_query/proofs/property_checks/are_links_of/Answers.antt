use Rattle.std.proofs.Common.{sym, ◌∙◌, refl}
use Rattle.std.proofs.lemmas.Bool.{true≢false, false≢true}
use Rattle.std.proofs.lemmas.List.{take_all}
use Rattle.std.proofs.lemmas.List.Elements.{All-more}
use Rattle.mk_props.specs.declared.property.LinkEntry.{LinkEntry}
use Rattle.mk_demands.specs.Numbers.{IsAtom}
use Rattle.mk_query.proofs.property_checks.are_links_of.Goals as goal

pub loop-link-preserved : goal.loop-link-preserved
loop-link-preserved c =
    All-more (λ (link : LinkEntry). IsAtom c.args.atoms link.atom) c.args.links.now c.loop-link.link-index _
    c.loop-link-test.true c.loop-link.invariant (c.is_link_of.ensures.0 c.if-not-is_link_of.false)

pub returns-then-not-is_link_of : goal.returns-then-not-is_link_of
returns-then-not-is_link_of c = (
  λ t. absurd (false≢true t),
  λ all. absurd (true≢false (sym (c.is_link_of.ensures.1 (all c.loop-link.link-index _ c.loop-link-test.true)) ∙ c.if-not-is_link_of.true)),
)

pub returns : goal.returns
returns c = (λ t. rw (take_all c.loop-link.link-index c.args.links.now c.loop-link-test.false) at c.loop-link.invariant, λ all. refl)
