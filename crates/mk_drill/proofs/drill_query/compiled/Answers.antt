use Rattle.mk_query.proofs.ForCallers.{few_by_lines, in_range}
use Rattle.mk_drill.proofs.QueryFaultLemmas.{memory_alone}
use Rattle.mk_drill.proofs.QueryFileLemmas.{few_lines}
use Rattle.mk_drill.proofs.drill_query.compiled.Goals as goal

pub compile-requires-clause-in_range : goal.compile-requires-clause-in_range
compile-requires-clause-in_range c = in_range c.args.raw.now c.requires.keeps

pub compile-requires-clause-few_members : goal.compile-requires-clause-few_members
compile-requires-clause-few_members c = (few_by_lines _ c.args.raw.now few_lines c.requires.fits).1

pub compile-requires-clause-few_properties : goal.compile-requires-clause-few_properties
compile-requires-clause-few_properties c = (few_by_lines _ c.args.raw.now few_lines c.requires.fits).0

pub failed-requires : goal.failed-requires
failed-requires c = memory_alone c.args.raw.now c.in-Err.fault c.requires.read c.in-Err.ensures.fault
