use Rattle.mk_kept.specs.declared.query_text.QueryText.TheVariants.{Compiled}
use Rattle.mk_kept.proofs.stored_rows.query_meant.Goals as goal

pub returns-in-Compiled : goal.returns-in-Compiled
returns-in-Compiled c = record { kept = c.in_ok-is_kept.ensures.kept c.if-not-branch.false; is = rw c.in-Compiled.is at c.in_ok-query.ensures }

pub returns-in_default : goal.returns-in_default
returns-in_default c = λ meant.
    c.in_default.not-Compiled meant.0 (c.one_said.ensures c.args.text.now c.in_ok-query.field-0 (Compiled meant.0) c.in_ok-query.ensures meant.1.is)
