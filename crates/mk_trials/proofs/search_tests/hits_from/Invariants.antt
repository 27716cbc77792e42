use Rattle.mk_trials.proofs.search_tests.hits_from.Given as goal

abbrev pub ghosts-hits_on : goal.ghosts-hits_on
ghosts-hits_on a = record { name = a.blank.name; parts = a.blank.parts }
