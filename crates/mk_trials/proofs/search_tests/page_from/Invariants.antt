use Rattle.mk_trials.proofs.search_tests.page_from.Given as goal

abbrev pub ghosts-page_on : goal.ghosts-page_on
ghosts-page_on a = record { name = a.blank.name; parts = a.blank.parts }
