use Rattle.std.proofs.Common.{◌≡◌, ◌∙◌, ap, refl, subst, List}
use Rattle.mk_outside.specs.declared.tables.Change.{Change}
use Rattle.mk_outside.specs.declared.tables.CursorRow.{CursorRow}
use Rattle.mk_effects.specs.declared.hit_lines.Stop.{Stop}
use Rattle.mk_found.specs.Effects.{Answers}
use Rattle.mk_effects.specs.Searching.{HasListing, IsListing, ListsRest, MovesPlace}
use Rattle.mk_kept.specs.Named.{IsQueryNamed}
use Rattle.mk_effects.proofs.HitLinesLemmas.{goes_on}
use Rattle.mk_effects.proofs.SearchingLemmas.{none_put}
use Rattle.mk_effects.proofs.searching.resume_found.Goals as goal

pub returns-in_ok-pending-in-Ended-clause-comes : goal.returns-in_ok-pending-in-Ended-clause-comes
returns-in_ok-pending-in-Ended-clause-comes g c =
    let s = c.in-Some.search.now in
    let row : CursorRow = record { number = c.args.number; name = s.name; place = s.place } in
    let query = c.in-Some-query_named.query.now in
    let named : IsQueryNamed c.args.saved.now.queries s.name query = rw c.as_slice.ensures at c.in-Some-query_named.ensures.some in
    let l : HasListing c.args.library.now.records query s.place c.args.limit c.args.budget c.args.number c.in_ok-listed.listed.stop c.in_ok-listed.listed.place
    c.in_ok-listed.listed.text = rw c.as_slice-place.ensures at c.in_ok-listed.ensures.listed in
    ListsRest row c.in-Some.ensures.some query named l.keys c.in_ok-listed.listed.place c.in_ok-listed.listed.text
    (subst (λ (x : Stop). IsListing c.args.library.now.records query s.place c.args.limit c.args.budget c.args.number l.keys x c.in_ok-listed.listed.place c.in_ok-listed.listed.text)
    c.in-Ended.is l.listing)
    (ap (λ (changes : List Change). Answers changes c.in_ok-listed.listed.text) c.in_ok-pending-in-Ended.ensures)

pub returns-in_ok-pending-in-Ended-clause-begins : goal.returns-in_ok-pending-in-Ended-clause-begins
returns-in_ok-pending-in-Ended-clause-begins g c =
    let s = c.in-Some.search.now in
    let row : CursorRow = record { number = c.args.number; name = s.name; place = s.place } in
    record {
      row = row;
      saved = c.in-Some.ensures.some;
      listed = record {
        query = c.in-Some-query_named.query.now;
        named = rw c.as_slice.ensures at c.in-Some-query_named.ensures.some;
        stops = c.in_ok-listed.listed.stop;
        next = c.in_ok-listed.listed.place;
        begins = rw c.as_slice-place.ensures at c.in_ok-listed.ensures.begins;
        saved = λ on. absurd (on c.in-Ended.is);
        unsaved = λ _ d other at is. none_put _ _ _ _ _ c.in_ok-pending-in-Ended.ensures is;
      };
    }

pub returns-in_ok-pending-in-More-clause-comes : goal.returns-in_ok-pending-in-More-clause-comes
returns-in_ok-pending-in-More-clause-comes g c =
    let s = c.in-Some.search.now in
    let row : CursorRow = record { number = c.args.number; name = s.name; place = s.place } in
    let query = c.in-Some-query_named.query.now in
    let named : IsQueryNamed c.args.saved.now.queries s.name query = rw c.as_slice.ensures at c.in-Some-query_named.ensures.some in
    let l : HasListing c.args.library.now.records query s.place c.args.limit c.args.budget c.args.number c.in_ok-listed.listed.stop c.in_ok-listed.listed.place
    c.in_ok-listed.listed.text = rw c.as_slice-place.ensures at c.in_ok-listed.ensures.listed in
    let name : c.of-name.result ≡ s.name = c.of-name.ensures ∙ (rw c.as_slice-in-More.ensures at c.in_ok-from_slice-in-More.ensures.items) in
    MovesPlace row c.in-Some.ensures.some query named l.keys c.in_ok-listed.listed.stop c.in_ok-listed.listed.place c.in_ok-listed.listed.text l.listing
    (goes_on c.in_ok-listed.listed.stop c.in-More.is) (rw (c.in_ok-pending-in-More.ensures, name) refl)

pub returns-in_ok-pending-in-More-clause-begins : goal.returns-in_ok-pending-in-More-clause-begins
returns-in_ok-pending-in-More-clause-begins g c =
    let s = c.in-Some.search.now in
    let row : CursorRow = record { number = c.args.number; name = s.name; place = s.place } in
    let name : c.of-name.result ≡ s.name = c.of-name.ensures ∙ (rw c.as_slice-in-More.ensures at c.in_ok-from_slice-in-More.ensures.items) in
    record {
      row = row;
      saved = c.in-Some.ensures.some;
      listed = record {
        query = c.in-Some-query_named.query.now;
        named = rw c.as_slice.ensures at c.in-Some-query_named.ensures.some;
        stops = c.in_ok-listed.listed.stop;
        next = c.in_ok-listed.listed.place;
        begins = rw c.as_slice-place.ensures at c.in_ok-listed.ensures.begins;
        saved = λ _. rw (c.in_ok-pending-in-More.ensures, name) refl;
        unsaved = λ ended. absurd (goes_on c.in_ok-listed.listed.stop c.in-More.is ended);
      };
    }
