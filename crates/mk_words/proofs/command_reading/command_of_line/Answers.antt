use Rattle.std.proofs.Common.{length, Some, sym, ap, ◌∙◌, arith}
use Rattle.mk_text.proofs.ForCallers.{parts_length}
use Rattle.mk_words.proofs.CommandLemmas.{can_ask_order, line_of_many}
use Rattle.mk_words.proofs.command_reading.command_of_line.Goals as goal

pub returns-then-spans-gt-MOST_WORDS-clause-kind : goal.returns-then-spans-gt-MOST_WORDS-clause-kind
returns-then-spans-gt-MOST_WORDS-clause-kind c =
    line_of_many c.args.line.now (sym c.is_blank.ensures ∙ c.if-is_blank.false)
    (omega (arith, parts_length c.args.line.now c.in_ok-spans.spans.items, ap length c.in_ok-spans.ensures.words, ap length c.as_slice-spans.ensures.value))

pub returns-in-Some-clause-asks : goal.returns-in-Some-clause-asks
returns-in-Some-clause-asks c = can_ask_order c.deref.result.now (Some c.in-Some.command) (sym c.in_ok-command.ensures ∙ c.in-Some.is)
