use Rattle.std.proofs.Common.{refl, true}
use Rattle.mk_query.specs.Compiled.{query_tables}
use Rattle.mk_query.specs.CompileFaults.{across_tables, in_a_table}
use Rattle.mk_query.specs.TableWalk.{IsWalked}
use Rattle.mk_query.proofs.QueryLemmas.{fits_query, is_draft}
use Rattle.mk_query.proofs.TableWalkLemmas.{first_in_tables}
use Rattle.mk_query.proofs.compiling.compile.Goals as goal
use Rattle.mk_query.proofs.compiling.compile.Goals.{In_default}

-- every table passes its own checks, and has its template
walked : (c : In_default) → IsWalked c.args.raw.now.groups (query_tables c.args.raw.now) c.put_tables.new.templates.items
walked c = rw c.in_default.is at c.in_ok-fault.ensures

pub returns-in-Some-clause-fault : goal.returns-in-Some-clause-fault
returns-in-Some-clause-fault c = rw c.named.ensures (in_a_table (first_in_tables c.args.raw.now c.in-Some.fault (rw c.in-Some.is at c.in_ok-fault.ensures)))

pub groups_of-requires-clause-root : goal.groups_of-requires-clause-root
groups_of-requires-clause-root c = record { groups = c.args.raw.now.groups; is_root = true; passes = (walked (goal.at.groups_of-requires-clause-root c).In_default).passed 0 c.args.raw.now.root refl }

pub of-draft-requires : goal.of-draft-requires
of-draft-requires c =
    let all = walked (goal.at.of-draft-requires c).In_default in
    is_draft c.args.raw.now c.requires.in_range all.passed c.put_tables.new.templates.items all.are c.in_ok-groups_of.field-0.items c.in_ok-groups_of.ensures c.requires.few_members

pub returns-in-Some-2-clause-fault : goal.returns-in-Some-2-clause-fault
returns-in-Some-2-clause-fault c =
    let all = walked (goal.at.returns-in-Some-2-clause-fault c).In_default in
    rw c.named-in-Some-2.ensures
    (across_tables all.passed _ (record { templates = all.are; groups = c.in_ok-groups_of.ensures }) (rw (c.of-draft.ensures, c.in-Some-2.is) at c.in_ok-fault-2.ensures))

pub into_query-requires : goal.into_query-requires
into_query-requires c =
    let all = walked (goal.at.into_query-requires c).In_default in
    rw c.of-draft.ensures
    (fits_query c.args.raw.now c.requires.in_range all.passed c.put_tables.new.templates.items all.are c.in_ok-groups_of.field-0.items c.in_ok-groups_of.ensures
    (rw (c.of-draft.ensures, c.in_default-2.is) at c.in_ok-fault-2.ensures))

pub returns-clause-passed : goal.returns-clause-passed
returns-clause-passed c =
    rw (c.into_query.ensures) (record { in_tables = (walked (goal.at.returns-clause-passed c).In_default).passed; across = rw c.in_default-2.is at c.in_ok-fault-2.ensures })
