use Rattle.std.proofs.Common.{rules}
use Rattle.mk_sqlite.proofs.KeepsLemmas.{fault_leaves, shut_leaves}
use Rattle.mk_sqlite.proofs.keeper.SqlKeeperKeeper.commit.Goals.{in-Ok, in-Err}
use Rattle.mk_sqlite.proofs.keeper.SqlKeeperKeeper.commit.Goals as goal

pub returns-clause-after_fault : goal.returns-clause-after_fault
returns-clause-after_fault g c =
    elim c.match-self.branch [
      | in-Ok w ↦ fault_leaves g.S.Store c.args.self.now.opened c.counted.new.self.opened w.in-Ok.connection w.commit-answer.new.connection w.in-Ok.is (search rules)
          w.commit-answer.ensures.after_fault
      | in-Err w ↦ shut_leaves g.S.Store c.args.self.now.opened c.counted.new.self.opened w.in-Err.fail w.in-Err.is
    ]
