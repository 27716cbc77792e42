use Rattle.std.proofs.Common.{◌∙◌, ap, sym}
use Rattle.mk_expansions.specs.Starts.{first_number}
use Rattle.mk_search.proofs.SearchedLemmas.{standing_from}
use Rattle.mk_search.proofs.hits.Hits.from_place.Goals as goal

pub invariant_of-result : goal.invariant_of-result
invariant_of-result c =
    standing_from c.args.shelf.now.rows c.in_ok-own.own.items c.in_ok-all.need c.args.query.now c.in_ok-all.all c.in_ok-all.ensures.belongs c.in_ok-all.ensures.need
    c.first_number-from.result (c.first_number-from.ensures ∙ ap first_number (sym c.in_ok-own.ensures))
