use Rattle.mk_trials.proofs.search_tests.least_from.Given as goal

abbrev pub ghosts-least_on : goal.ghosts-least_on
ghosts-least_on a = record { name = a.blank.name; parts = a.blank.parts }
