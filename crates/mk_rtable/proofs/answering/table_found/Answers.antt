use Rattle.std.proofs.Common.{refl}
use Rattle.mk_rtable.specs.Answer.{WritesRows}
use Rattle.mk_kept.specs.Named.{IsQueryNamed}
use Rattle.mk_rtable.proofs.answering.table_found.Goals as goal

pub returns-clause-comes : goal.returns-clause-comes
returns-clause-comes g c =
    let query = c.in-Some.query.now in
    let named : IsQueryNamed c.args.saved.now.queries c.args.name.now query = rw c.as_bytes.ensures.value at c.in-Some.ensures.some in
    WritesRows query named c.in_ok-rows.rows c.in_ok-rows.ensures.table (rw (c.of.ensures, c.in_ok-put_table.ensures.ok, c.new-text.ensures.items, c.as_slice.ensures) refl)

pub returns-clause-begins : goal.returns-clause-begins
returns-clause-begins g c =
    let query = c.in-Some.query.now in
    let named : IsQueryNamed c.args.saved.now.queries c.args.name.now query = rw c.as_bytes.ensures.value at c.in-Some.ensures.some in
    record { query = query; named = named; begins = c.in_ok-rows.ensures.begins }
