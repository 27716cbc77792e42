use Rattle.mk_trials.proofs.search_tests.put_plain.Given as goal

abbrev pub ghosts-plain_from : goal.ghosts-plain_from
ghosts-plain_from a = record { name = a.blank.name; parts = a.blank.parts }
