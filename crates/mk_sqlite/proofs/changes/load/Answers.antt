use Rattle.std.proofs.Common.{rules, [], ◌≡◌, refl, subst, ap, ◌∙◌, Ok, Err, Result, IfOk, IfSome, IsTrue, Some}
use Rattle.sqlite_trees.specs.Tree.{Trees}
use Rattle.sqlite.specs.State.{State, Survives}
use Rattle.sqlite.specs.Held.{state}
use Rattle.sqlite.proofs.Callers.{survives_begin}
use Rattle.mk_outside.specs.declared.tables.Tables.{Tables}
use Rattle.mk_sqlite.specs.Told.{AreTablesOf}
use Rattle.mk_sqlite.specs.Steps.{Loads}
use Rattle.mk_sqlite.specs.Keeps.{IsSoundState, told_in, StandsFor, StaysSound, OnCrash, LeavesNoMore}
use Rattle.mk_sqlite.proofs.MovesLemmas.{loads_told, loads_tables}
use Rattle.mk_sqlite.proofs.KeepsLemmas.{tells, gives, finds, crashes, after_fault, stays_sound, on_crash, on_crash_within, left_by, left_same, if_some_as}
use Rattle.mk_sqlite.proofs.changes.load.Goals as goal

pub returns-clause-kept : goal.returns-clause-kept
returns-clause-kept g c =
    let old = state g.S.Store c.args.connection.now in
    let first = state g.S.Store c.transaction-transaction.result.conn.now in
    let mid = state g.S.Store c.load_inside-answer.new.transaction.conn.now in
    let last = state g.S.Store c.end.new.transaction.0 in
    let begun = c.transaction-transaction.ensures.begun in
    let same : c.end.new.transaction.0 ≡ c.connection-1.given.0 = search rules in
    subst (λ h. IsSoundState (state g.S.Store h) → IfSome (told_in old) (λ t. told_in (state g.S.Store h) ≡ Some t)) same
    (λ sound. if_some_as (told_in old) _ _ (λ t told. told ∙ ap Some (left_same c.end.result t))
    (tells old first mid last (rw begun) (rw begun) (rw begun) (rw begun) (rw begun) (search rules) (c.is_autocommit.ensures.settled (search rules)) c.schema-schema.ensures.live
    c.load_inside-answer.ensures.survives.clean c.end.ensures.survives.clean c.end.ensures.ended c.load_inside-answer.result c.end.result (λ t. t)
    (λ it. IsTrue first.is_open × Loads first.now it) c.load_inside-answer.ensures.inside c.end.ensures.ends c.end.ensures.same sound))

pub returns-clause-gives : goal.returns-clause-gives
returns-clause-gives g c =
    let old = state g.S.Store c.args.connection.now in
    let first = state g.S.Store c.transaction-transaction.result.conn.now in
    let mid = state g.S.Store c.load_inside-answer.new.transaction.conn.now in
    let last = state g.S.Store c.end.new.transaction.0 in
    let begun = c.transaction-transaction.ensures.begun in
    let same : c.end.new.transaction.0 ≡ c.connection-1.given.0 = search rules in
    subst (λ h. IsSoundState (state g.S.Store h) → IfSome (told_in old) (λ t. IfOk c.end.result (λ loaded. loaded ≡ t))) same
    (gives old first mid last (rw begun) (rw begun) (rw begun) (rw begun) (rw begun) (search rules) (c.is_autocommit.ensures.settled (search rules)) c.schema-schema.ensures.live
    c.load_inside-answer.ensures.survives.clean c.end.ensures.survives.clean c.end.ensures.ended c.load_inside-answer.result c.end.result (λ t. t)
    (λ it. IsTrue first.is_open × Loads first.now it) c.load_inside-answer.ensures.inside c.end.ensures.ends c.end.ensures.same
    (λ a t. a ≡ t) (λ a reads. loads_told first.now a reads.1))

pub returns-clause-stays : goal.returns-clause-stays
returns-clause-stays g c =
    let old = state g.S.Store c.args.connection.now in
    let first = state g.S.Store c.transaction-transaction.result.conn.now in
    let mid = state g.S.Store c.load_inside-answer.new.transaction.conn.now in
    let last = state g.S.Store c.end.new.transaction.0 in
    let begun = c.transaction-transaction.ensures.begun in
    let same : c.end.new.transaction.0 ≡ c.connection-1.given.0 = search rules in
    let P = λ (db : Trees). IsTrue old.is_open × IfSome (told_in old) (StandsFor db) in
    let whole = crashes old first mid last (rw begun) (rw begun) (rw begun) (rw begun) (rw begun) (search rules) (c.is_autocommit.ensures.settled (search rules)) c.schema-schema.ensures.live
    c.load_inside-answer.ensures.survives.clean c.end.ensures.survives.clean c.end.ensures.ended c.load_inside-answer.result c.end.result (λ t. t)
    (λ it. IsTrue first.is_open × Loads first.now it) c.load_inside-answer.ensures.inside c.end.ensures.ends c.end.ensures.same
    (λ a it. it.0) c.load_inside-answer.ensures.survives c.end.ensures.survives in
    subst (λ h. StaysSound old (state g.S.Store h)) same
    (stays_sound old last P (survives_begin g.S.Store c.args.connection.now last P (rw begun at whole)) c.end.ensures.ended)

pub returns-clause-crash : goal.returns-clause-crash
returns-clause-crash g c =
    let old = state g.S.Store c.args.connection.now in
    let first = state g.S.Store c.transaction-transaction.result.conn.now in
    let mid = state g.S.Store c.load_inside-answer.new.transaction.conn.now in
    let last = state g.S.Store c.end.new.transaction.0 in
    let begun = c.transaction-transaction.ensures.begun in
    let same : c.end.new.transaction.0 ≡ c.connection-1.given.0 = search rules in
    let P = λ (db : Trees). IsTrue old.is_open × IfSome (told_in old) (StandsFor db) in
    let whole = crashes old first mid last (rw begun) (rw begun) (rw begun) (rw begun) (rw begun) (search rules) (c.is_autocommit.ensures.settled (search rules)) c.schema-schema.ensures.live
    c.load_inside-answer.ensures.survives.clean c.end.ensures.survives.clean c.end.ensures.ended c.load_inside-answer.result c.end.result (λ t. t)
    (λ it. IsTrue first.is_open × Loads first.now it) c.load_inside-answer.ensures.inside c.end.ensures.ends c.end.ensures.same
    (λ a it. it.0) c.load_inside-answer.ensures.survives c.end.ensures.survives in
    subst (λ h. OnCrash old (state g.S.Store h) []) same (on_crash old last [] (λ db opens may. g.met.S.Store.settled c.args.connection.now.store db opens may) c.schema-schema.ensures.live
    (survives_begin g.S.Store c.args.connection.now last P (rw begun at whole)))

pub returns-clause-after_fault : goal.returns-clause-after_fault
returns-clause-after_fault g c =
    let old = state g.S.Store c.args.connection.now in
    let first = state g.S.Store c.transaction-transaction.result.conn.now in
    let mid = state g.S.Store c.load_inside-answer.new.transaction.conn.now in
    let last = state g.S.Store c.end.new.transaction.0 in
    let begun = c.transaction-transaction.ensures.begun in
    let same : c.end.new.transaction.0 ≡ c.connection-1.given.0 = search rules in
    let Q = λ (db : Trees). IfSome (told_in old) (StandsFor db) in
    let whole = crashes old first mid last (rw begun) (rw begun) (rw begun) (rw begun) (rw begun) (search rules) (c.is_autocommit.ensures.settled (search rules)) c.schema-schema.ensures.live
    c.load_inside-answer.ensures.survives.clean c.end.ensures.survives.clean c.end.ensures.ended c.load_inside-answer.result c.end.result (λ t. t)
    (λ it. IsTrue first.is_open × Loads first.now it) c.load_inside-answer.ensures.inside c.end.ensures.ends c.end.ensures.same
    (λ a it. it.0) c.load_inside-answer.ensures.survives c.end.ensures.survives in
    subst (λ h. LeavesNoMore old (state g.S.Store h)) same
    (after_fault old last Q (survives_begin g.S.Store c.args.connection.now last (λ db. IsTrue old.is_open × Q db) (rw begun at whole)))

pub returns-clause-formed : goal.returns-clause-formed
returns-clause-formed g c =
    let old = state g.S.Store c.args.connection.now in
    let first = state g.S.Store c.transaction-transaction.result.conn.now in
    let mid = state g.S.Store c.load_inside-answer.new.transaction.conn.now in
    let last = state g.S.Store c.end.new.transaction.0 in
    let begun = c.transaction-transaction.ensures.begun in
    let same : c.end.new.transaction.0 ≡ c.connection-1.given.0 = search rules in
    subst (λ h. IsSoundState (state g.S.Store h) → IfOk c.end.result (AreTablesOf old.committed)) same
    (finds old first mid last (rw begun) (rw begun) (rw begun) (rw begun) (rw begun) (search rules) (c.is_autocommit.ensures.settled (search rules)) c.schema-schema.ensures.live
    c.load_inside-answer.ensures.survives.clean c.end.ensures.survives.clean c.end.ensures.ended c.load_inside-answer.result c.end.result (λ t. t)
    (λ it. IsTrue first.is_open × Loads first.now it) c.load_inside-answer.ensures.inside c.end.ensures.ends c.end.ensures.same
    (λ a db. AreTablesOf db a) (λ a reads. loads_tables first.now a reads.1))

pub returns-then-not-is_autocommit-clause-crash : goal.returns-then-not-is_autocommit-clause-crash
returns-then-not-is_autocommit-clause-crash g c = on_crash_within (state g.S.Store c.args.connection.now) (state g.S.Store c.args.connection.now) ([]) (search rules)
