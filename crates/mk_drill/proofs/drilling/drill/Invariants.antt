use Rattle.mk_drill.proofs.drilling.drill.Given as goal

abbrev pub ghosts-listed_hits : goal.ghosts-listed_hits
ghosts-listed_hits a = record { name = a.blank.name; parts = a.blank.parts }
