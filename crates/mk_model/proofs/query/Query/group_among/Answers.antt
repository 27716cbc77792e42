use Rattle.std.proofs.Common.{arith}
use Rattle.mk_model.proofs.MembersLemmas.{none_left}
use Rattle.mk_model.proofs.query.Query.group_among.Goals as goal

pub returns-clause-member : goal.returns-clause-member
returns-clause-member c = absurd (none_left c.args.self.now c.args.labels.now c.args.u c.requires.one (λ k less. c.loop-g.invariant k (omega (arith, less))))

pub returns-clause-among : goal.returns-clause-among
returns-clause-among c = absurd (none_left c.args.self.now c.args.labels.now c.args.u c.requires.one (λ k less. c.loop-g.invariant k (omega (arith, less))))
