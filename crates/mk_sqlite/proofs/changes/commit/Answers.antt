use Rattle.std.proofs.Common.{rules, [], ◌≡◌, refl, subst, ap, ◌∙◌, Ok, Err, Result, IfOk, IfSome, IsTrue, Some}
use Rattle.sqlite_trees.specs.Tree.{Trees}
use Rattle.sqlite.specs.State.{State, Survives}
use Rattle.sqlite.specs.Held.{state}
use Rattle.sqlite.proofs.Callers.{survives_begin}
use Rattle.mk_outside.specs.declared.tables.Tables.{Tables}
use Rattle.mk_outside.specs.Tables.{after_batch}
use Rattle.mk_outside.specs.Told.{committed}
use Rattle.mk_sqlite.specs.Keeps.{IsSoundState, told_in, StandsFor, StaysSound, OnCrash, LeavesNoMore}
use Rattle.mk_sqlite.proofs.KeepsLemmas.{tells, crashes, after_fault, stays_sound, on_crash, on_crash_within, left_by, left_committed, if_some_as}
use Rattle.mk_sqlite.proofs.changes.commit.Goals as goal

pub returns-clause-told : goal.returns-clause-told
returns-clause-told g c =
    let old = state g.S.Store c.args.connection.now in
    let first = state g.S.Store c.transaction-transaction.result.conn.now in
    let mid = state g.S.Store c.commit_inside-answer.new.transaction.conn.now in
    let last = state g.S.Store c.end.new.transaction.0 in
    let begun = c.transaction-transaction.ensures.begun in
    let same : c.end.new.transaction.0 ≡ c.connection-1.given.0 = search rules in
    subst (λ h. IsSoundState (state g.S.Store h) → IfSome (told_in old) (λ t. told_in (state g.S.Store h) ≡ Some (committed c.args.batch.now t c.end.result))) same
    (λ sound. if_some_as (told_in old) _ _ (λ t told. told ∙ ap Some (left_committed c.args.batch.now c.end.result t))
    (tells old first mid last (rw begun) (rw begun) (rw begun) (rw begun) (rw begun) (search rules) (c.is_autocommit.ensures.settled (search rules)) c.schema-schema.ensures.live
    c.commit_inside-answer.ensures.survives.clean c.end.ensures.survives.clean c.end.ensures.ended c.commit_inside-answer.result c.end.result (after_batch c.args.batch.now)
    (λ _. IsTrue first.is_open) c.commit_inside-answer.ensures.inside c.end.ensures.ends c.end.ensures.same sound))

pub returns-clause-stays : goal.returns-clause-stays
returns-clause-stays g c =
    let old = state g.S.Store c.args.connection.now in
    let first = state g.S.Store c.transaction-transaction.result.conn.now in
    let mid = state g.S.Store c.commit_inside-answer.new.transaction.conn.now in
    let last = state g.S.Store c.end.new.transaction.0 in
    let begun = c.transaction-transaction.ensures.begun in
    let same : c.end.new.transaction.0 ≡ c.connection-1.given.0 = search rules in
    let P = λ (db : Trees). IsTrue old.is_open × IfSome (told_in old) (λ t. StandsFor db (after_batch c.args.batch.now t)) in
    let whole = crashes old first mid last (rw begun) (rw begun) (rw begun) (rw begun) (rw begun) (search rules) (c.is_autocommit.ensures.settled (search rules)) c.schema-schema.ensures.live
    c.commit_inside-answer.ensures.survives.clean c.end.ensures.survives.clean c.end.ensures.ended c.commit_inside-answer.result c.end.result (after_batch c.args.batch.now)
    (λ _. IsTrue first.is_open) c.commit_inside-answer.ensures.inside c.end.ensures.ends c.end.ensures.same
    (λ _ opens. opens) c.commit_inside-answer.ensures.survives c.end.ensures.survives in
    subst (λ h. StaysSound old (state g.S.Store h)) same
    (stays_sound old last P (survives_begin g.S.Store c.args.connection.now last P (rw begun at whole)) c.end.ensures.ended)

pub returns-clause-crash : goal.returns-clause-crash
returns-clause-crash g c =
    let old = state g.S.Store c.args.connection.now in
    let first = state g.S.Store c.transaction-transaction.result.conn.now in
    let mid = state g.S.Store c.commit_inside-answer.new.transaction.conn.now in
    let last = state g.S.Store c.end.new.transaction.0 in
    let begun = c.transaction-transaction.ensures.begun in
    let same : c.end.new.transaction.0 ≡ c.connection-1.given.0 = search rules in
    let P = λ (db : Trees). IsTrue old.is_open × IfSome (told_in old) (λ t. StandsFor db (after_batch c.args.batch.now t)) in
    let whole = crashes old first mid last (rw begun) (rw begun) (rw begun) (rw begun) (rw begun) (search rules) (c.is_autocommit.ensures.settled (search rules)) c.schema-schema.ensures.live
    c.commit_inside-answer.ensures.survives.clean c.end.ensures.survives.clean c.end.ensures.ended c.commit_inside-answer.result c.end.result (after_batch c.args.batch.now)
    (λ _. IsTrue first.is_open) c.commit_inside-answer.ensures.inside c.end.ensures.ends c.end.ensures.same
    (λ _ opens. opens) c.commit_inside-answer.ensures.survives c.end.ensures.survives in
    subst (λ h. OnCrash old (state g.S.Store h) c.args.batch.now) same (on_crash old last c.args.batch.now (λ db opens may. g.met.S.Store.settled c.args.connection.now.store db opens may)
    c.schema-schema.ensures.live
    (survives_begin g.S.Store c.args.connection.now last P (rw begun at whole)))

pub returns-clause-after_fault : goal.returns-clause-after_fault
returns-clause-after_fault g c =
    let old = state g.S.Store c.args.connection.now in
    let first = state g.S.Store c.transaction-transaction.result.conn.now in
    let mid = state g.S.Store c.commit_inside-answer.new.transaction.conn.now in
    let last = state g.S.Store c.end.new.transaction.0 in
    let begun = c.transaction-transaction.ensures.begun in
    let same : c.end.new.transaction.0 ≡ c.connection-1.given.0 = search rules in
    let Q = λ (db : Trees). IfSome (told_in old) (λ t. StandsFor db (after_batch c.args.batch.now t)) in
    let whole = crashes old first mid last (rw begun) (rw begun) (rw begun) (rw begun) (rw begun) (search rules) (c.is_autocommit.ensures.settled (search rules)) c.schema-schema.ensures.live
    c.commit_inside-answer.ensures.survives.clean c.end.ensures.survives.clean c.end.ensures.ended c.commit_inside-answer.result c.end.result (after_batch c.args.batch.now)
    (λ _. IsTrue first.is_open) c.commit_inside-answer.ensures.inside c.end.ensures.ends c.end.ensures.same
    (λ _ opens. opens) c.commit_inside-answer.ensures.survives c.end.ensures.survives in
    subst (λ h. LeavesNoMore old (state g.S.Store h)) same
    (after_fault old last Q (survives_begin g.S.Store c.args.connection.now last (λ db. IsTrue old.is_open × Q db) (rw begun at whole)))

pub returns-then-not-is_autocommit-clause-crash : goal.returns-then-not-is_autocommit-clause-crash
returns-then-not-is_autocommit-clause-crash g c = on_crash_within (state g.S.Store c.args.connection.now) (state g.S.Store c.args.connection.now) (c.args.batch.now) (search rules)
