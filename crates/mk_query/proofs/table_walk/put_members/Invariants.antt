use Rattle.std.proofs.Common.{◌≡◌, ◌+◌, ◌++◌, List, length, take}
use Rattle.mk_tables.specs.declared.raw.RawTable.{RawTable}
use Rattle.mk_query.specs.TableWalk.{IsWalked}
use Rattle.mk_query.proofs.table_walk.put_members.Given as goal

abbrev pub invariant-loop-k : goal.invariant-loop-k
invariant-loop-k l =
    record {
      size : length l.templates.items ≡ length l.initial.templates.items + l.k;
      walked : (done : List RawTable) → IsWalked l.groups done l.initial.templates.items → IsWalked l.groups (done ++ take l.k l.members) l.templates.items;
    }
