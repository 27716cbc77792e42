use Rattle.std.proofs.Common.{◌<◌, ◌+◌, ◌∙◌, ℕ, length, sym, arith}
use Rattle.std.specs.Prelude.{◌↔◌, IsTrue}
use Rattle.std.proofs.lemmas.Bool.{true≢false}
use Rattle.mk_query.specs.Drawn.{links_at}
use Rattle.mk_query.specs.LinkChecks.{AreRightLinks}
use Rattle.mk_query.proofs.LinkLemmas.{between, right_links}
use Rattle.mk_query.proofs.NumberedLemmas.{placed-more, placed-fail, placed-all}
use Rattle.mk_query.proofs.links.first_unknown_link.Goals as goal
use Rattle.mk_query.proofs.links.first_unknown_link.Goals.{In_ok-right}

pub of-requires-clause-ends : goal.of-requires-clause-ends
of-requires-clause-ends c =
    rw (c.as_slice.ensures, c.deref.ensures.value, c.in_ok-bonds.ensures, c.as_slice-2.ensures)
    (between (length c.args.notes.now.table.now.atoms) c.args.notes.now.table.now.bonds c.requires.bonds)

-- what was tested is the demand
right : (c : In_ok-right) → IsTrue c.in_ok-right.right ↔ AreRightLinks c.args.notes.now.table.now (c.loop-i.i + 1) (links_at c.args.notes.now.table.now (c.loop-i.i + 1))
right c =
    let table = c.args.notes.now.table.now in
    let below : c.loop-i.i < length table.atoms = rw c.as_slice.ensures at c.loop-i-test.true in
    let by = rw (c.in_ok-bonded.ensures.atoms, c.in_ok-bonded.ensures.bonds, c.as_slice.ensures, c.deref.ensures.value, c.in_ok-bonds.ensures, c.as_slice-2.ensures) at c.in_ok-right.ensures in
    let same =
    right_links table c.args.notes.now.standing (c.loop-i.i + 1) c.args.notes.now.are (between (length table.atoms) table.bonds c.requires.bonds) (omega arith) (omega (arith, below)) in
    (λ t. same.0 (by.0 t), λ p. by.1 (same.1 p))

pub loop-i-preserved : goal.loop-i-preserved
loop-i-preserved c =
    let table = c.args.notes.now.table.now in
    placed-more (λ (j : ℕ). AreRightLinks table j (links_at table j)) table.atoms c.loop-i.i ((right (goal.at.loop-i-preserved c).In_ok-right).0 c.if-not-right.false) c.loop-i.invariant

pub returns-then-not-right : goal.returns-then-not-right
returns-then-not-right c =
    let table = c.args.notes.now.table.now in
    placed-fail (λ (j : ℕ). AreRightLinks table j (links_at table j)) table.atoms c.loop-i.i (rw c.as_slice.ensures at c.loop-i-test.true)
    (λ p. true≢false (sym ((right (goal.at.returns-then-not-right c).In_ok-right).1 p) ∙ c.if-not-right.true)) c.loop-i.invariant

pub returns : goal.returns
returns c =
    let table = c.args.notes.now.table.now in
    placed-all (λ (j : ℕ). AreRightLinks table j (links_at table j)) table.atoms c.loop-i.i (rw c.as_slice.ensures at c.loop-i-test.false) c.loop-i.invariant
