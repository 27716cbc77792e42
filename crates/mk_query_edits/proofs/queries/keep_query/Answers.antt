use Rattle.std.proofs.Common.{◌≡◌, ◌∙◌, refl}
use Rattle.mk_query_edits.specs.Queries.{Keeps, TextsAreFull, full_queries_text, kept_text}
use Rattle.mk_query_edits.proofs.QueriesLemmas.{full_if, keep_fits, kept_is_meant, refusal_fits}
use Rattle.mk_query_edits.proofs.queries.keep_query.Goals as goal

pub returns-in_default-clause-comes : goal.returns-in_default-clause-comes
returns-in_default-clause-comes c = λ files file read.
    let kept : c.of-kept.result ≡ kept_text c.args.text.now = c.of-kept.ensures ∙ (rw (c.deref.ensures.value, c.in_ok-lines.ensures.lines) at c.in_ok-kept_lines.ensures) in
    let none = rw (c.as_slice.ensures, kept) at c.in_default.ensures.full in
    full_if c.full_queries.result c.full_queries.ensures (λ effect is. TextsAreFull c.requires.free c.args.query (record { bytes = c.args.text.now; read = read; is = c.requires.means }) none is)

pub returns-in_default-clause-fits : goal.returns-in_default-clause-fits
returns-in_default-clause-fits c = λ library. refusal_fits c.full_queries.result full_queries_text c.full_queries.ensures library c.args.saved.now

pub put_pending-requires-clause-means : goal.put_pending-requires-clause-means
put_pending-requires-clause-means c =
    let kept : c.of-kept.result ≡ kept_text c.args.text.now = c.of-kept.ensures ∙ (rw (c.deref.ensures.value, c.in_ok-lines.ensures.lines) at c.in_ok-kept_lines.ensures) in
    rw kept (kept_is_meant c.kept_text_stays.ensures.kept c.kept_text_is_the_query.ensures c.args.text.now c.args.query c.requires.means)

pub returns-clause-comes : goal.returns-clause-comes
returns-clause-comes c = λ files file read.
    let kept : c.of-kept.result ≡ kept_text c.args.text.now = c.of-kept.ensures ∙ (rw (c.deref.ensures.value, c.in_ok-lines.ensures.lines) at c.in_ok-kept_lines.ensures) in
    let room = rw (c.as_slice.ensures, kept) at c.in-Some.ensures.room in
    Keeps c.requires.free c.args.query (record { bytes = c.args.text.now; read = read; is = c.requires.means }) room
    (rw (c.in_ok-pending.ensures, c.in-Some.ensures.next, kept, c.in_ok-answer.ensures) refl)

pub returns-clause-fits : goal.returns-clause-fits
returns-clause-fits c = λ library.
    let room = rw c.as_slice.ensures at c.in-Some.ensures.room in
    keep_fits c.reserve_query.new.self c.in_ok-pending.pending c.in-Some.number c.args.name.now c.of-kept.result c.in_ok-pending.ensures
    (rw c.in_ok-reserve_query.ensures.same.queries c.in-Some.ensures.above)
    (rw c.in_ok-reserve_query.ensures.same.queries c.requires.free.new)
    (rw c.in_ok-reserve_query.ensures.same.queries c.requires.free.few)
    (rw c.in_ok-reserve_query.ensures.same.queries room) c.in_ok-reserve_query.ensures.room
