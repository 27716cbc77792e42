use Rattle.mk_search.proofs.pacing.take_turn.Goals as goal

pub item-requires : goal.item-requires
item-requires g c =
    let t = rw c.in-Item.is at c.in_ok-advance.ensures.turn in
    record { behind = (t.0, t.1.takes.place) }
