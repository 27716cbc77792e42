use Rattle.std.proofs.Common.{◌∙◌}
use Rattle.mk_kept.proofs.stored_rows.keep_query.Goals as goal

pub put_query-requires-clause-place : goal.put_query-requires-clause-place
put_query-requires-clause-place c =
    let place = c.requires.place in
    let name = c.in_ok-name.ensures.items ∙ c.as_slice.ensures in
    let text = c.of-text.ensures ∙ c.in_ok-from_slice.ensures.items ∙ c.as_slice-2.ensures in
    rw (c.in_ok-reserve_query.ensures.same.queries, name, text) (place.above, place.new, place.few, place.bytes)

pub put_query-requires-clause-name : goal.put_query-requires-clause-name
put_query-requires-clause-name c = rw (c.in_ok-name.ensures.items ∙ c.as_slice.ensures) c.requires.place.name

pub put_query-requires-clause-least : goal.put_query-requires-clause-least
put_query-requires-clause-least c = c.requires.place.number

pub put_query-requires-clause-meant : goal.put_query-requires-clause-meant
put_query-requires-clause-meant c = rw (c.of-text.ensures ∙ c.in_ok-from_slice.ensures.items ∙ c.as_slice-2.ensures) c.requires.meant

pub put_query-requires-clause-room : goal.put_query-requires-clause-room
put_query-requires-clause-room c = c.in_ok-reserve_query.ensures.room

pub returns-clause-rows : goal.returns-clause-rows
returns-clause-rows c =
    let name = c.in_ok-name.ensures.items ∙ c.as_slice.ensures in
    let text = c.of-text.ensures ∙ c.in_ok-from_slice.ensures.items ∙ c.as_slice-2.ensures in
    rw (c.in_ok-reserve_query.ensures.same.queries, name, text) at c.put_query.ensures.queries
