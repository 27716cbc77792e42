use Rattle.std.proofs.Common.{length, arith}
use Rattle.mk_enum.proofs.LimitLemmas.{few_fails, few_more, few_none}
use Rattle.mk_enum.proofs.limits.has_few_each.Goals as goal

pub loop-i-init : goal.loop-i-init
loop-i-init c = few_none c.args.graph.now.bonds

pub loop-i-preserved : goal.loop-i-preserved
loop-i-preserved c = few_more c.args.graph.now.bonds c.loop-i.i c.bonds_at.result.now c.loop-i.invariant c.bonds_at.ensures.numbers (omega arith)

pub returns-then-bonds_at-gt-MOST_AT_AN_ATOM : goal.returns-then-bonds_at-gt-MOST_AT_AN_ATOM
returns-then-bonds_at-gt-MOST_AT_AN_ATOM c =
    (λ no. absurd cc, λ few. absurd (few_fails (length c.args.graph.now.atoms) c.args.graph.now.bonds c.loop-i.i c.bonds_at.result.now (omega arith) c.bonds_at.ensures.numbers (omega arith) few))
