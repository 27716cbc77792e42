use Rattle.std.proofs.Common.{◌∷◌, [], refl}
use Rattle.mk_query.specs.Compiled.{member_tables}
use Rattle.mk_query.proofs.TableWalkLemmas.{next_among, none_walked}
use Rattle.mk_query.proofs.table_walk.put_root.Goals as goal

pub returns-in-Some : goal.returns-in-Some
returns-in-Some c =
    let raw = c.args.raw.now in
    next_among raw.groups [] (raw.root ∷ []) c.in-Some.fault (member_tables raw.groups, refl)
    ((rw (c.as_slice-groups.ensures, c.in-Some.is) at c.in_ok-fault.ensures.found) [] (none_walked raw.groups c.args.templates.now.items c.requires.empty))

pub returns : goal.returns
returns c =
    (rw (c.as_slice-groups.ensures, c.in_default.is) at c.in_ok-fault.ensures.found) [] (none_walked c.args.raw.now.groups c.args.templates.now.items c.requires.empty)
