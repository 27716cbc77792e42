use Rattle.std.proofs.Common.{take, All}
use Rattle.mk_demands.specs.Numbers.{IsAtom}
use Rattle.mk_props.specs.declared.property.LinkEntry.{LinkEntry}
use Rattle.mk_query.proofs.property_checks.are_links_of.Given as goal

abbrev pub invariant-loop-link : goal.invariant-loop-link
invariant-loop-link l = All (λ (link : LinkEntry). IsAtom l.atoms link.atom) (take l.link-index l.links)
