use Rattle.std.proofs.Common.{◌∙◌}
use Rattle.sqlite.specs.Held.{state}
use Rattle.sqlite.proofs.StateLemmas.{survives_then}
use Rattle.mk_sqlite.proofs.InsideLemmas.{went_both, both_stopped}
use Rattle.mk_sqlite.proofs.BatchLemmas.{changes_more, changes_all}
use Rattle.mk_sqlite.proofs.changes.make_all.Goals as goal

pub loop-change-preserved : goal.loop-change-preserved
loop-change-preserved g c =
    let old = state g.S.Store c.args.transaction.now.conn.now in
    let mid = state g.S.Store c.loop-change.transaction.conn.now in
    let last = state g.S.Store c.make_change.new.transaction.conn.now in
    record {
      same = c.make_change.ensures.same_reference ∙ c.loop-change.invariant.same;
      survives = survives_then old mid last (λ _. ⊥) (λ _. ⊥) (λ _. ⊥) (λ _ db none. none) (λ _ db none. none) c.loop-change.invariant.survives c.make_change.ensures.survives;
      went = went_both old mid last _ _ _ c.make_change.ensures.survives.clean
          (changes_more old mid last c.args.batch.now c.loop-change.change-index c.change-item.result c.loop-change-test.true c.change-item.is) c.loop-change.invariant.went
          c.in_ok-make_change.ensures.inside;
    }

pub returns-in_err-make_change-clause-inside : goal.returns-in_err-make_change-clause-inside
returns-in_err-make_change-clause-inside g c =
    both_stopped (state g.S.Store c.args.transaction.now.conn.now) (state g.S.Store c.loop-change.transaction.conn.now) (state g.S.Store c.make_change.new.transaction.conn.now) _ _ _ _ _
    c.make_change.ensures.survives.clean c.from_residual.ensures.0 c.loop-change.invariant.went c.make_change.ensures.inside

pub returns-clause-inside : goal.returns-clause-inside
returns-clause-inside g c clean inside =
    let it = c.loop-change.invariant.went clean inside in (
      it.0,
      (
        it.1.0,
        changes_all (state g.S.Store c.args.transaction.now.conn.now) (state g.S.Store c.loop-change.transaction.conn.now) c.args.batch.now c.loop-change.change-index
            c.loop-change-test.false it.1.1,
      ),
    )
