use Rattle.std.proofs.Common.{[], ◌≡◌, ◌∙◌, refl, subst}
use Rattle.mk_kept.specs.Saved.{HasSearchRoom}
use Rattle.mk_effects.specs.declared.hit_lines.Stop.{Stop}
use Rattle.mk_effects.specs.Searching.{HasListing, IsListing, IsSearch, ListsAll, SavesPlace, SearchesAreFull, full_searches_text}
use Rattle.mk_kept.specs.Named.{IsQueryNamed}
use Rattle.mk_found.specs.Findings.{stands_for}
use Rattle.mk_kept.proofs.ForCallers.{named_of}
use Rattle.mk_effects.proofs.SearchingLemmas.{put_fits, refused_if}
use Rattle.mk_effects.proofs.HitLinesLemmas.{goes_on}
use Rattle.mk_effects.proofs.searching.search_found.Goals as goal

pub returns-then-not-has_search_room-clause-comes : goal.returns-then-not-has_search_room-clause-comes
returns-then-not-has_search_room-clause-comes g c =
    let named : IsQueryNamed c.args.saved.now.queries c.args.name.now c.in-Some.query.now = rw c.as_bytes.ensures.value at c.in-Some.ensures.some in
    refused_if {P = IsSearch (stands_for c.args.library.now c.args.saved.now) c.args.name.now c.args.limit c.args.budget} full_searches_text c.full_searches.result c.full_searches.ensures
    (λ effect is. SearchesAreFull c.in-Some.query.now named (c.has_search_room.ensures.full c.if-not-has_search_room.true) is)

pub returns-in-Ended-clause-comes : goal.returns-in-Ended-clause-comes
returns-in-Ended-clause-comes g c =
    let query = c.in-Some.query.now in
    let named : IsQueryNamed c.args.saved.now.queries c.args.name.now query = rw c.as_bytes.ensures.value at c.in-Some.ensures.some in
    let room : HasSearchRoom c.args.saved.now.cursors c.args.saved.now.next_cursor = c.has_search_room.ensures.room c.if-not-has_search_room.false in
    let l : HasListing c.args.library.now.records query [] c.args.limit c.args.budget c.args.saved.now.next_cursor c.in_ok-listed.listed.stop c.in_ok-listed.listed.place
    c.in_ok-listed.listed.text = rw c.next_cursor-number.ensures at c.in_ok-listed.ensures.listed in
    ListsAll query named room l.keys c.in_ok-listed.listed.place c.in_ok-listed.listed.text
    (subst (λ (s : Stop). IsListing c.args.library.now.records query [] c.args.limit c.args.budget c.args.saved.now.next_cursor l.keys s c.in_ok-listed.listed.place c.in_ok-listed.listed.text)
    c.in-Ended.is l.listing) refl

pub returns-in-Ended-clause-begins : goal.returns-in-Ended-clause-begins
returns-in-Ended-clause-begins g c = record {
  query = c.in-Some.query.now;
  named = rw c.as_bytes.ensures.value at c.in-Some.ensures.some;
  stops = c.in_ok-listed.listed.stop;
  next = c.in_ok-listed.listed.place;
  begins = rw c.next_cursor-number.ensures at c.in_ok-listed.ensures.begins;
  saved = λ on. absurd (on c.in-Ended.is);
  unsaved = λ _ d other at is. cc;
}

pub returns-in_ok-pending-in-More-clause-comes : goal.returns-in_ok-pending-in-More-clause-comes
returns-in_ok-pending-in-More-clause-comes g c =
    let query = c.in-Some.query.now in
    let named : IsQueryNamed c.args.saved.now.queries c.args.name.now query = rw c.as_bytes.ensures.value at c.in-Some.ensures.some in
    let room : HasSearchRoom c.args.saved.now.cursors c.args.saved.now.next_cursor = c.has_search_room.ensures.room c.if-not-has_search_room.false in
    let l : HasListing c.args.library.now.records query [] c.args.limit c.args.budget c.args.saved.now.next_cursor c.in_ok-listed.listed.stop c.in_ok-listed.listed.place
    c.in_ok-listed.listed.text = rw c.next_cursor-number.ensures at c.in_ok-listed.ensures.listed in
    let name : c.of.result ≡ c.args.name.now = c.of.ensures ∙ (rw c.as_bytes-in-More.ensures.value at c.in_ok-name-in-More.ensures.items) in
    SavesPlace query named room l.keys c.in_ok-listed.listed.stop c.in_ok-listed.listed.place c.in_ok-listed.listed.text l.listing (goes_on c.in_ok-listed.listed.stop c.in-More.is)
    (rw (c.in_ok-pending-in-More.ensures, c.next_cursor-number.ensures, name) refl)

pub returns-in_ok-pending-in-More-clause-begins : goal.returns-in_ok-pending-in-More-clause-begins
returns-in_ok-pending-in-More-clause-begins g c =
    let name : c.of.result ≡ c.args.name.now = c.of.ensures ∙ (rw c.as_bytes-in-More.ensures.value at c.in_ok-name-in-More.ensures.items) in
    record {
      query = c.in-Some.query.now;
      named = rw c.as_bytes.ensures.value at c.in-Some.ensures.some;
      stops = c.in_ok-listed.listed.stop;
      next = c.in_ok-listed.listed.place;
      begins = rw c.next_cursor-number.ensures at c.in_ok-listed.ensures.begins;
      saved = λ _. rw (c.in_ok-pending-in-More.ensures, c.next_cursor-number.ensures, name) refl;
      unsaved = λ ended. absurd (goes_on c.in_ok-listed.listed.stop c.in-More.is ended);
    }

pub returns-in_ok-pending-in-More-clause-fits : goal.returns-in_ok-pending-in-More-clause-fits
returns-in_ok-pending-in-More-clause-fits g c =
    let named : IsQueryNamed c.args.saved.now.queries c.args.name.now c.in-Some.query.now = rw c.as_bytes.ensures.value at c.in-Some.ensures.some in
    let name : c.of.result ≡ c.args.name.now = c.of.ensures ∙ (rw c.as_bytes-in-More.ensures.value at c.in_ok-name-in-More.ensures.items) in
    put_fits c.reserve_cursor.new.self c.in_ok-pending-in-More.pending _ _ _ c.in_ok-pending-in-More.ensures
    (rw (c.in_ok-reserve_cursor-in-More.ensures.same.queries, name) (named_of c.args.name.now c.args.saved.now.queries c.in-Some.query.now named)) c.in_ok-reserve_cursor-in-More.ensures.room
