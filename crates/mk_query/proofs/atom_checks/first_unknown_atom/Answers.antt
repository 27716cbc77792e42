use Rattle.std.proofs.Common.{sym, ◌∙◌}
use Rattle.std.proofs.lemmas.Bool.{true≢false}
use Rattle.mk_query.specs.Checks.{IsQueryAtom}
use Rattle.mk_text.proofs.ForCallers.{items-more, items-fail, items-all}
use Rattle.mk_query.proofs.atom_checks.first_unknown_atom.Goals as goal

pub loop-i-preserved : goal.loop-i-preserved
loop-i-preserved c = items-more IsQueryAtom c.args.atoms.now c.loop-i.i c.index-atoms-i.result c.index-atoms-i.is (c.is_query_atom.ensures.0 c.if-not-is_query_atom.false) c.loop-i.invariant

pub returns-then-not-is_query_atom : goal.returns-then-not-is_query_atom
returns-then-not-is_query_atom c =
    items-fail IsQueryAtom c.args.atoms.now c.loop-i.i c.index-atoms-i.result c.loop-i-test.true c.index-atoms-i.is
    (λ p. true≢false (sym (c.is_query_atom.ensures.1 p) ∙ c.if-not-is_query_atom.true)) c.loop-i.invariant

pub returns : goal.returns
returns c = items-all IsQueryAtom c.args.atoms.now c.loop-i.i c.loop-i-test.false c.loop-i.invariant
