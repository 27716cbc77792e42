use Rattle.std.proofs.Common.{take}
use Rattle.mk_query.specs.LinkMarks.{AreMoreLinks}
use Rattle.mk_query.proofs.LinkMarkLemmas.{named}
use Rattle.mk_query.proofs.linked_atoms.add_links.Given as goal

abbrev pub invariant-loop-link : goal.invariant-loop-link
invariant-loop-link l = AreMoreLinks (named (take l.link-index l.links)) l.fn.list.items l.list.items
