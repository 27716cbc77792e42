use Rattle.mk_open_codes.proofs.PassingLemmas.{Places}
use Rattle.mk_open_codes.proofs.places.root_places.Given as goal

abbrev pub invariant-loop-slot : goal.invariant-loop-slot
invariant-loop-slot l = Places l.query l.code l.slot-index l.places.items l.at
