use Rattle.std.proofs.Common.{take}
use Rattle.mk_query.specs.Drawn.{links_for}
use Rattle.mk_query.specs.LinkMarks.{AreMoreLinks}
use Rattle.mk_query.proofs.linked_atoms.linked_atoms.Given as goal

abbrev pub invariant-loop-property : goal.invariant-loop-property
invariant-loop-property l = AreMoreLinks (λ x. links_for x (take l.property-index l.props)) l.initial.list.items l.list.items
