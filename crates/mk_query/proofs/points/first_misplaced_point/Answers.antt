use Rattle.std.proofs.Common.{◌<◌, ◌+◌, ◌∙◌, length, sym, arith}
use Rattle.std.specs.Prelude.{◌↔◌, IsTrue}
use Rattle.std.proofs.lemmas.Bool.{true≢false}
use Rattle.mk_query.specs.LinkChecks.{IsPointed}
use Rattle.mk_query.proofs.NumberedLemmas.{placed-more, placed-fail, placed-all}
use Rattle.mk_query.proofs.PointLemmas.{pointed_is}
use Rattle.mk_query.proofs.points.first_misplaced_point.Goals as goal
use Rattle.mk_query.proofs.points.first_misplaced_point.Goals.{After-is_pointed}

-- what was tested is the demand
right : (c : After-is_pointed) → IsTrue c.is_pointed.result ↔ IsPointed c.args.is_root c.args.notes.now.table.now (c.loop-i.i + 1)
right c =
    let below : c.loop-i.i < length c.args.notes.now.table.now.atoms = rw c.as_slice-atoms.ensures at c.loop-i-test.true in
    let first = rw c.as_slice-atoms.ensures at c.first_bearer-first.ensures in
    let second = rw c.as_slice-atoms.ensures at c.first_bearer-second.ensures in
    let same =
    pointed_is c.args.is_root c.args.notes.now.table.now c.args.notes.now.standing c.first_bearer-first.result
    c.first_bearer-second.result (c.loop-i.i + 1) c.args.notes.now.are (omega arith) (omega (arith, below))
    first second in
    (λ t. same.0 (c.is_pointed.ensures.0 t), λ p. c.is_pointed.ensures.1 (same.1 p))

pub loop-i-preserved : goal.loop-i-preserved
loop-i-preserved c =
    let table = c.args.notes.now.table.now in
    placed-more (IsPointed c.args.is_root table) table.atoms c.loop-i.i ((right (goal.at.loop-i-preserved c).After-is_pointed).0 c.if-not-is_pointed.false) c.loop-i.invariant

pub returns-then-not-is_pointed : goal.returns-then-not-is_pointed
returns-then-not-is_pointed c =
    placed-fail (IsPointed c.args.is_root c.args.notes.now.table.now) c.args.notes.now.table.now.atoms c.loop-i.i (rw c.as_slice-atoms.ensures at c.loop-i-test.true)
    (λ p. true≢false (sym ((right (goal.at.returns-then-not-is_pointed c).After-is_pointed).1 p) ∙ c.if-not-is_pointed.true)) c.loop-i.invariant

pub returns : goal.returns
returns c = placed-all (IsPointed c.args.is_root c.args.notes.now.table.now) c.args.notes.now.table.now.atoms c.loop-i.i (rw c.as_slice-atoms.ensures at c.loop-i-test.false) c.loop-i.invariant
