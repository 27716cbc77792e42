use Rattle.std.proofs.Common.{◌∷◌, take}
use Rattle.mk_query.specs.Compiled.{member_tables}
use Rattle.mk_query.specs.TableWalk.{IsWalked}
use Rattle.mk_query.proofs.table_walk.put_groups.Given as goal

abbrev pub invariant-loop-i : goal.invariant-loop-i
invariant-loop-i l = IsWalked l.raw.groups (l.raw.root ∷ member_tables (take l.i l.raw.groups)) l.templates.items
