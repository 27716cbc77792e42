use Rattle.mk_expansions.proofs.KeptLemmas.{planned}
use Rattle.mk_expansions.proofs.expansions.expansion_by.Goals as goal

pub returns-in-Some-clause-kept : goal.returns-in-Some-clause-kept
returns-in-Some-clause-kept c = c.take.ensures.kept c.args.query.now c.requires.kept

pub returns-in-Some-clause-is : goal.returns-in-Some-clause-is
returns-in-Some-clause-is c =
    planned c.args.query.now c.args.code.now c.in-Some.plan c.in_ok-own.own c.in_ok-own.ensures.items (c.in-Some.ensures.is c.args.query.now c.requires.kept)

pub returns-in_err-graph-clause-kept : goal.returns-in_err-graph-clause-kept
returns-in_err-graph-clause-kept c = c.take.ensures.kept c.args.query.now c.requires.kept

pub returns-in-Ok-clause-kept : goal.returns-in-Ok-clause-kept
returns-in-Ok-clause-kept c = c.take.ensures.kept c.args.query.now c.requires.kept

pub returns-in-Err-clause-kept : goal.returns-in-Err-clause-kept
returns-in-Err-clause-kept c = c.take.ensures.kept c.args.query.now c.requires.kept
