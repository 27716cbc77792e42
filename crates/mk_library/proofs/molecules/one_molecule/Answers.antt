use Rattle.mk_library.specs.declared.molecules.OneRecord.{OneRecord}
use Rattle.mk_library.proofs.OneMoleculeLemmas.{only_first, only_holds, unread_first}
use Rattle.mk_library.proofs.molecules.one_molecule.Goals as goal

pub returns-in-Err-clause-refused : goal.returns-in-Err-clause-refused
returns-in-Err-clause-refused c = unread_first c.args.text.now OneRecord c.in-Err.said c.in-Err.ensures.answer

pub returns-clause-molecule : goal.returns-clause-molecule
returns-clause-molecule c = only_holds c.args.text.now c.in-Ok.raws c.in-Ok.ensures.answer.0 c.in-Ok.ensures.answer.1 c.only_of.result c.only_of.ensures

pub returns-clause-refused : goal.returns-clause-refused
returns-clause-refused c = only_first c.args.text.now c.in-Ok.raws c.in-Ok.ensures.answer.0 c.in-Ok.ensures.answer.1 c.only_of.result c.only_of.ensures
