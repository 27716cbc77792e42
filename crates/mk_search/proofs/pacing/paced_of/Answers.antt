use Rattle.mk_search.proofs.pacing.paced_of.Goals as goal

pub take_turns-requires : goal.take_turns-requires
take_turns-requires g c = record {
  least = c.requires.least;
  short = c.requires.short;
  fits = c.requires.fits;
  made = c.requires.made;
  none = c.new-keys.ensures.items;
}

pub returns-clause-paced : goal.returns-clause-paced
returns-clause-paced g c = rw (c.of.ensures, c.in_ok-place.ensures) c.in_ok-stop.ensures.paced

pub returns-clause-begins : goal.returns-clause-begins
returns-clause-begins g c = rw (c.of.ensures, c.in_ok-place.ensures) c.in_ok-stop.ensures.begins
