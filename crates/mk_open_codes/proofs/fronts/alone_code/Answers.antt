use Rattle.mk_open_codes.proofs.AloneLemmas.{alone_open}
use Rattle.mk_open_codes.proofs.fronts.alone_code.Goals as goal

pub open_behind-requires : goal.open_behind-requires
open_behind-requires c =
    rw (c.deref.ensures.value, c.in_ok-push.ensures.items, c.in_ok-front.ensures.items_if_clones_equal (λ y e. e))
    (alone_open c.args.query.now c.args.slot c.args.number c.requires.slot c.requires.least c.requires.most)
