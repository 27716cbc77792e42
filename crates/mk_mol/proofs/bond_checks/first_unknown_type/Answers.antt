use Rattle.std.proofs.Common.{sym, ◌∙◌}
use Rattle.std.proofs.lemmas.Bool.{true≢false}
use Rattle.mk_mol.specs.Checks.{HasKnownType}
use Rattle.mk_text.proofs.ForCallers.{items-more_at, items-fail_at, items-all}
use Rattle.mk_mol.proofs.bond_checks.first_unknown_type.Goals as goal

pub loop-i-preserved : goal.loop-i-preserved
loop-i-preserved c = items-more_at HasKnownType c.args.bonds.now c.loop-i.i _ c.loop-i-test.true (c.has_known_type.ensures.0 c.if-not-has_known_type.false) c.loop-i.invariant

pub returns-then-not-has_known_type : goal.returns-then-not-has_known_type
returns-then-not-has_known_type c =
    items-fail_at HasKnownType c.args.bonds.now c.loop-i.i _ c.loop-i-test.true
    (λ p. true≢false (sym (c.has_known_type.ensures.1 p) ∙ c.if-not-has_known_type.true)) c.loop-i.invariant

pub returns : goal.returns
returns c = items-all HasKnownType c.args.bonds.now c.loop-i.i c.loop-i-test.false c.loop-i.invariant
