use Rattle.mk_open_codes.proofs.AloneLemmas.{front_open}
use Rattle.mk_open_codes.proofs.fronts.front_code.Goals as goal

pub open_behind-requires : goal.open_behind-requires
open_behind-requires c = front_open c.args.query.now c.args.front.now c.requires
