use Rattle.mk_trials.proofs.match_tests.turns.Given as goal

abbrev pub ghosts-turns_from : goal.ghosts-turns_from
ghosts-turns_from g a = record { name = a.blank.name; parts = a.blank.parts }
