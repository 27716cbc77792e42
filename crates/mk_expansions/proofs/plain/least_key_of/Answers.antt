use Rattle.mk_expansions.proofs.plain.least_key_of.Goals as goal

pub least_key_from-key-requires : goal.least_key_from-key-requires
least_key_from-key-requires g c =
    let made = c.in_ok-codes.ensures.left in
    record { fits = c.templates-kept.ensures.kept; query = made.query_is; starts = rw made.place_is c.start.ensures }

pub returns-clause-least : goal.returns-clause-least
returns-clause-least g c = c.least_key_from-key.ensures.least
