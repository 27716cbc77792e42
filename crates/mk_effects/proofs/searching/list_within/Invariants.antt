use Rattle.mk_effects.proofs.searching.list_within.Given as goal

abbrev pub ghosts-paced : goal.ghosts-paced
ghosts-paced g a = record { name = a.blank.name; parts = a.blank.parts }
