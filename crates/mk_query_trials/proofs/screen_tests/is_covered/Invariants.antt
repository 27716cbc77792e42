use Rattle.mk_query_trials.proofs.screen_tests.is_covered.Given as goal

abbrev pub ghosts-covers_on : goal.ghosts-covers_on
ghosts-covers_on a = record { name = a.blank.name; parts = a.blank.parts }
