use Rattle.std.proofs.Common.{None, ap, ◌∙◌}
use Rattle.mk_text.specs.Rising.{AreFirst}
use Rattle.mk_model.specs.Keys.{Remains}
use Rattle.mk_effects.specs.Hits.{stop_of}
use Rattle.mk_library.specs.Records.{IsMoleculeAt}
use Rattle.mk_effects.specs.Searching.{IsListing}
use Rattle.mk_effects.proofs.SearchingLemmas.{begins_over_records, first_over_records, parts_over_records}
use Rattle.mk_effects.proofs.searching.list_first.Goals as goal

pub hits_answer-requires : goal.hits_answer-requires
hits_answer-requires g c =
    let records = c.args.library.now.records in
    let hits = c.in_ok-listed.listed.hits in
    let first : AreFirst c.args.limit (Remains (IsMoleculeAt records) c.args.query.now c.args.place.now) hits =
    first_over_records c.one_filled_molecule.ensures c.sdfile_is_exact.ensures.one records c.shelf.result.now.rows
    c.args.query.now c.args.place.now c.args.limit hits c.shelf.ensures.held c.in_ok-listed.ensures.page.hits in
    rw c.as_slice.ensures (parts_over_records records c.args.query.now c.args.place.now c.args.limit hits first)

pub returns-clause-listed : goal.returns-clause-listed
returns-clause-listed g c =
    let records = c.args.library.now.records in
    let hits = c.in_ok-listed.listed.hits in
    let first : AreFirst c.args.limit (Remains (IsMoleculeAt records) c.args.query.now c.args.place.now) hits =
    first_over_records c.one_filled_molecule.ensures c.sdfile_is_exact.ensures.one records c.shelf.result.now.rows
    c.args.query.now c.args.place.now c.args.limit hits c.shelf.ensures.held c.in_ok-listed.ensures.page.hits in
    let listing : IsListing records c.args.query.now c.args.place.now c.args.limit None c.args.number hits c.stop_of-stop.result c.in_ok-listed.listed.place c.in_ok-text.text.items = record {
      listed = record {
        first = first;
        stop = c.stop_of-stop.ensures ∙ ap (λ b. stop_of b c.args.number) c.in_ok-listed.ensures.page.ended;
        behind = c.in_ok-listed.ensures.page.next;
      };
      lines = rw c.as_slice.ensures at c.in_ok-text.ensures;
    } in
    rw c.of.ensures (record { keys = hits; listing = listing })

pub returns-clause-begins : goal.returns-clause-begins
returns-clause-begins g c = record {
  page = c.in_ok-listed.listed;
  listing = rw c.of.ensures (record {
    listed = record {
      first = first_over_records c.one_filled_molecule.ensures c.sdfile_is_exact.ensures.one c.args.library.now.records c.shelf.result.now.rows
          c.args.query.now c.args.place.now c.args.limit c.in_ok-listed.listed.hits c.shelf.ensures.held c.in_ok-listed.ensures.page.hits;
      stop = c.stop_of-stop.ensures ∙ ap (λ b. stop_of b c.args.number) c.in_ok-listed.ensures.page.ended;
      behind = c.in_ok-listed.ensures.page.next;
    };
    lines = rw c.as_slice.ensures at c.in_ok-text.ensures;
  });
  ended = c.in_ok-listed.ensures.page.ended;
  begins =
      begins_over_records c.args.library.now.records c.shelf.result.now.rows c.args.query.now c.args.place.now c.in_ok-listed.listed _ _ c.shelf.ensures.held c.in_ok-listed.ensures.begins;
}

pub returns-clause-short : goal.returns-clause-short
returns-clause-short g c =
    c.places_are_short.ensures c.shelf.result.now.rows c.args.query.now c.args.place.now c.args.limit c.in_ok-listed.listed c.templates-kept.ensures.kept c.in_ok-listed.ensures.page c.requires.short
