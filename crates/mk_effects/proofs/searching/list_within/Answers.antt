use Rattle.std.proofs.Common.{refl}
use Rattle.mk_effects.proofs.PacedLemmas.{begins_of_page, listing_of_page, parts_of_page}
use Rattle.mk_effects.proofs.searching.list_within.Goals as goal

pub hits_answer-requires : goal.hits_answer-requires
hits_answer-requires g c =
    rw c.as_slice.ensures
    (parts_of_page c.one_filled_molecule.ensures c.sdfile_is_exact.ensures.one c.args.library.now.records c.shelf-shelf.result.now.rows c.args.query.now c.args.place.now c.args.limit c.args.budget
    c.args.number 0 c.in_ok-listed.ensures.paced.0 c.in_ok-listed.listed c.shelf-shelf.ensures.held c.in_ok-listed.ensures.paced.1)

pub returns-clause-listed : goal.returns-clause-listed
returns-clause-listed g c =
    let listing =
    listing_of_page c.one_filled_molecule.ensures c.sdfile_is_exact.ensures.one c.args.library.now.records c.shelf-shelf.result.now.rows c.args.query.now c.args.place.now c.args.limit c.args.budget
    c.args.number 0 c.in_ok-listed.ensures.paced.0 c.in_ok-listed.listed c.shelf-shelf.ensures.held c.in_ok-listed.ensures.paced.1
    c.stop_of_paced-stop.result c.in_ok-text.text.items c.stop_of_paced-stop.ensures (rw c.as_slice.ensures at c.in_ok-text.ensures) in
    rw c.of.ensures (record { keys = c.in_ok-listed.listed.hits; listing = listing })

pub returns-clause-begins : goal.returns-clause-begins
returns-clause-begins g c =
    let listing =
    listing_of_page c.one_filled_molecule.ensures c.sdfile_is_exact.ensures.one c.args.library.now.records c.shelf-shelf.result.now.rows c.args.query.now c.args.place.now c.args.limit c.args.budget
    c.args.number 0 c.in_ok-listed.ensures.paced.0 c.in_ok-listed.listed c.shelf-shelf.ensures.held c.in_ok-listed.ensures.paced.1
    c.stop_of_paced-stop.result c.in_ok-text.text.items c.stop_of_paced-stop.ensures (rw c.as_slice.ensures at c.in_ok-text.ensures) in
    rw c.of.ensures (record {
      paced = c.in_ok-listed.listed;
      listing = listing;
      stop = c.stop_of_paced-stop.ensures;
      at = refl;
      begins = begins_of_page c.args.library.now.records c.shelf-shelf.result.now.rows c.args.query.now c.args.place.now c.in_ok-listed.listed _ _ c.shelf-shelf.ensures.held
          c.in_ok-listed.ensures.begins;
    })
