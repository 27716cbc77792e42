use Rattle.std.proofs.Common.{sym, ◌∙◌}
use Rattle.mk_talk.proofs.SpeakingLemmas.{line_no_memory, no_memory_frame}
use Rattle.mk_talk.proofs.answering.answer_line.Goals as goal

pub returns-in-Err-clause-goes : goal.returns-in-Err-clause-goes
returns-in-Err-clause-goes g c =
    line_no_memory _ _ c.args.line.now _ _ _ c.put.result (sym c.is_blank.ensures ∙ c.if-is_blank.false) no_memory_frame c.put.ensures
