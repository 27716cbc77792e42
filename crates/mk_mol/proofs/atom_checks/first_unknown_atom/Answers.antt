use Rattle.std.proofs.Common.{sym, ◌∙◌}
use Rattle.std.proofs.lemmas.Bool.{true≢false}
use Rattle.mk_mol.specs.Checks.{IsKnownAtom}
use Rattle.mk_text.proofs.ForCallers.{items-more, items-fail, items-all}
use Rattle.mk_mol.proofs.atom_checks.first_unknown_atom.Goals as goal

pub loop-i-preserved : goal.loop-i-preserved
loop-i-preserved c = items-more IsKnownAtom c.args.atoms.now c.loop-i.i c.index-atoms-i.result c.index-atoms-i.is (c.is_known.ensures.0 c.if-not-is_known.false) c.loop-i.invariant

pub returns-then-not-is_known : goal.returns-then-not-is_known
returns-then-not-is_known c =
    items-fail IsKnownAtom c.args.atoms.now c.loop-i.i c.index-atoms-i.result c.loop-i-test.true c.index-atoms-i.is
    (λ p. true≢false (sym (c.is_known.ensures.1 p) ∙ c.if-not-is_known.true)) c.loop-i.invariant

pub returns : goal.returns
returns c = items-all IsKnownAtom c.args.atoms.now c.loop-i.i c.loop-i-test.false c.loop-i.invariant
