use Rattle.mk_pieces.proofs.DrawnLawLemmas.{links_once}
use Rattle.mk_pieces.proofs.laws.single_links_stay_as_drawn.Goals as goal

pub returns : goal.returns
returns c = links_once
