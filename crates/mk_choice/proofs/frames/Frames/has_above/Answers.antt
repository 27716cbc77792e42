use Rattle.std.proofs.Common.{arith}
use Rattle.std.proofs.lemmas.Bool.Decides.{nat_tests}
use Rattle.mk_choice.proofs.SlotLemmas.{known_at, known_dropped, most_is}
use Rattle.mk_choice.proofs.frames.Frames.has_above.Goals as goal

pub at-requires-clause-known : goal.at-requires-clause-known
at-requires-clause-known c = known_dropped c.args.self.now.waiting c.args.self.now.first c.requires

pub most_at-requires : goal.most_at-requires
most_at-requires c = known_at c.args.self.now.waiting c.args.self.now.first c.at.result.now c.requires c.at.ensures

pub returns-clause-yes : goal.returns-clause-yes
returns-clause-yes c = λ yes.
    let most = most_is c.args.query.now c.args.self.now.waiting c.args.self.now.first c.at.result.now c.at.ensures in
    grind (arith, nat_tests, yes, most, c.most_at.ensures)

pub returns-clause-none : goal.returns-clause-none
returns-clause-none c = λ no_more.
    let most = most_is c.args.query.now c.args.self.now.waiting c.args.self.now.first c.at.result.now c.at.ensures in
    grind (arith, nat_tests, no_more, most, c.most_at.ensures)
