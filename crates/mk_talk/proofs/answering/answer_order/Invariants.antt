use Rattle.mk_talk.proofs.answering.answer_order.Given as goal

abbrev pub ghosts-step_order : goal.ghosts-step_order
ghosts-step_order g a = record { name = a.blank.name; parts = a.blank.parts }
