use Rattle.std.proofs.Common.{length}
use Rattle.mk_rings.proofs.GrowLemmas.{numbers-row}
use Rattle.mk_rings.proofs.steps.numbers_of.Goals as goal

pub returns : goal.returns
returns c = numbers-row (length c.args.near.now) c.args.bonds.now c.args.near.now c.args.x c.at.result.now c.requires.rows c.requires.atom.0 c.requires.atom.1 c.at.ensures
