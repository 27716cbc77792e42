use Rattle.std.proofs.Common.{refl}
use Rattle.mk_choice.specs.Frames.{open_of}
use Rattle.mk_choice.proofs.MoveLemmas.{counts_within}
use Rattle.mk_choice.proofs.frames.Frames.is_dead.Goals as goal

pub cant_complete-requires-clause-counts : goal.cant_complete-requires-clause-counts
cant_complete-requires-clause-counts c = counts_within c.args.query.now c.args.most.now c.args.self.now c.requires.frames 512 c.requires.frames.within

pub returns-then-cant_complete : goal.returns-then-cant_complete
returns-then-cant_complete c = λ _.
    let is = c.requires.frames.stands in
    c.if-cant_complete.ensures refl c.args.most.now (open_of c.args.self.now) is.bounds is.known is.is_ahead

pub cant_together-requires-clause-counts : goal.cant_together-requires-clause-counts
cant_together-requires-clause-counts c = counts_within c.args.query.now c.args.most.now c.args.self.now c.requires.frames 512 c.requires.frames.within
